use Rattle.std.proofs.Common.{◌∷◌, ℕ, [], List, inl, inr, refl}
use Rattle.nextest_config_elements.specs.Readers.{read_by, reader_of, ReaderOf, unread}
use Rattle.nextest_config_elements.specs.declared.field.Shape.{Shape}
use Rattle.nextest_config_elements.specs.declared.field.Shape.TheVariants.{Text}
use Rattle.nextest_config_profiles.specs.Merged.{HasNoValue}
use Rattle.nextest_config_profiles.specs.Profile.{layers_in}
use Rattle.nextest_config_profiles.specs.Report.Given.{IsGivenRead, IsGivenUnread, shape_read}
use Rattle.nextest_config_profiles.specs.Report.Setting.{rule_of}
use Rattle.nextest_config_profiles.specs.Said.{Path}
use Rattle.nextest_config_profiles.specs.declared.effective.Effective.TheVariants as effective
use Rattle.nextest_config_profiles.specs.declared.profile.EffectiveProfile.{EffectiveProfile}
use Rattle.nextest_config_profiles.specs.declared.report.given.Given.TheVariants as given
use Rattle.nextest_config_profiles.proofs.report.other_profiles.fault_if.Goals as goal

-- a profile without a value gives nothing, whatever reads it
module _ (profile : EffectiveProfile) (name : List ℕ) (keys : Path) (none : HasNoValue (layers_in profile) (name ∷ keys)) where
  nothing_unread : (shape : Shape) → IsGivenUnread shape profile (name ∷ []) keys given.Nothing
  nothing_unread Text = (effective.Nothing, inr ((inl none, tt), refl), refl)
  nothing_unread other = (effective.Nothing, inr ((inl none, tt), refl), refl)

  nothing_read : (shape : Shape) (reader : ReaderOf) → IsGivenRead (IsGivenUnread shape) reader profile (name ∷ []) keys given.Nothing
  nothing_read shape unread = nothing_unread shape
  nothing_read shape (read_by seen reading) = (effective.Nothing, inr ((inl none, tt), refl), refl)

pub returns-then-not-some_have : goal.returns-then-not-some_have
returns-then-not-some_have c =
    let profile = c.args.profile.now in
    let setting = rule_of c.args.setting in
    let none = c.some_have.ensures c.if-not-some_have.true (layers_in c.args.effective.now) (profile.name.now ∷ []) (rw c.as_slice.ensures.value c.requires) in
    (given.Nothing, (given.Nothing, nothing_read c.args.effective.now profile.name.now setting.keys none (shape_read setting.rule) (reader_of (shape_read setting.rule)), refl), refl)

pub given_for-requires : goal.given_for-requires
given_for-requires c = rw c.from_ref.ensures.value (c.requires, tt)

pub returns : goal.returns
returns c = (c.in_ok-given.given, rw c.from_ref.ensures.value at c.in_ok-given.ensures, c.in_ok-fault.ensures)

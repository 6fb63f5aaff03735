-- The later of two that ask for a version, unless its version is below.
use Rattle.std.specs.Prelude.{◌≡◌, Bool, true, false, Option, Some, None, if◌then◌else◌}
use Rattle.std.proofs.Common.{refl, sym, ◌∙◌}
use Rattle.std.proofs.lemmas.Bool.{false_from_ne_true, false≢true}
use Rattle.semver.specs.Parse.{Parts}
use Rattle.nextest_config.specs.Merge.{IsMonoid}
use Rattle.nextest_config.specs.NextestVersion.Precedence.{is_below, IsBelow}
use Rattle.nextest_config.specs.NextestVersion.PrecedenceLaws.{below_trans, not_below_trans}

-- the later one of two, unless its version is below the earlier one's; the only one, or none
abbrev pub later_of : {A : Type 0} → (A → Parts) → Option A → Option A → Option A
later_of version None later = later
later_of version (Some earlier) None = Some earlier
later_of version (Some earlier) (Some later) = if is_below (version later) (version earlier)
    then Some earlier else Some later

-- ---- the choice is associative

not_below : (u v : Parts) → is_below u v ≡ false → ¬ IsBelow u v
not_below u v above below = false≢true (sym above ∙ below)

-- of three, whether the second is below the first, and the third below the second
three_in_a_row : {A : Type 0} (version : A → Parts) (a b c : A) (second third : Bool)
    → is_below (version b) (version a) ≡ second → is_below (version c) (version b) ≡ third
    → later_of version (later_of version (Some a) (Some b)) (Some c)
    ≡ later_of version (Some a) (later_of version (Some b) (Some c))
three_in_a_row version a b c true true e f =
    rw (f, e, below_trans (version c) (version b) (version a) f e) refl
three_in_a_row version a b c true false e f = rw (f, e) refl
three_in_a_row version a b c false true e f = rw (e, f, e) refl
three_in_a_row version a b c false false e f =
    let above = false_from_ne_true (is_below (version c) (version a))
    (not_below_trans (version c) (version b) (version a)
    (not_below (version c) (version b) f) (not_below (version b) (version a) e)) in
    rw (f, e, f, above) refl

none_last : {A : Type 0} (version : A → Parts) (a : Option A) → later_of version a None ≡ a
none_last version None = refl
none_last version (Some a) = refl

in_a_row : {A : Type 0} (version : A → Parts) (a b c : Option A)
    → later_of version (later_of version a b) c ≡ later_of version a (later_of version b c)
in_a_row version None b c = refl
in_a_row version (Some a) None c = refl
in_a_row version (Some a) (Some b) None = none_last version (later_of version (Some a) (Some b))
in_a_row version (Some a) (Some b) (Some c) =
    three_in_a_row version a b c (is_below (version b) (version a))
    (is_below (version c) (version b)) refl refl

pub later_joins : {A : Type 0} (version : A → Parts) → IsMonoid (later_of version) None
later_joins version = record {
  associative = in_a_row version;
  neutral_first = λ a. refl;
  neutral_last = none_last version;
}

use Rattle.std.proofs.Common.{◌≡◌, ◌-◌, ◌∷◌, [], List, Some, ap, arith, length, map, suc, sym, ◌∙◌}
use Rattle.std.proofs.lemmas.Option.{none-some, same_Some}
use Rattle.std.specs.List.{slice_get}
use Rattle.nextest_config_lint.specs.References.{key_of, last_key}
use Rattle.nextest_config_lint.specs.Settings.{mark_step}
use Rattle.nextest_config_lint.specs.declared.settings.Mark.{Mark}
use Rattle.nextest_config_lint.proofs.references.last_key.Goals as goal

last_is : (path : List Mark) (mark : Mark) → slice_get path (length path - 1) ≡ Some mark → last_key (map mark_step path) ≡ key_of (mark_step mark)
last_is [] mark is = absurd (none-some mark is)
last_is (one ∷ []) mark is = ap (λ last. key_of (mark_step last)) (same_Some one mark is)
last_is (one ∷ two ∷ rest) mark is =
    let same : length (one ∷ two ∷ rest) - 1 ≡ suc (length (two ∷ rest) - 1) = omega arith in
    last_is (two ∷ rest) mark (rw same at is)

pub returns-in-Key : goal.returns-in-Key
returns-in-Key c =
    sym (last_is c.args.path.now c.in_ok-name.field-0.now (sym c.in_ok-name.ensures.value) ∙ ap (λ mark. key_of (mark_step mark)) c.in-Key.is)

pub returns-in-Index : goal.returns-in-Index
returns-in-Index c =
    sym (last_is c.args.path.now c.in_ok-name.field-0.now (sym c.in_ok-name.ensures.value) ∙ ap (λ mark. key_of (mark_step mark)) c.in-Index.is)

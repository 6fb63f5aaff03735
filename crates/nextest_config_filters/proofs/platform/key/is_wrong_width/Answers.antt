use Rattle.std.proofs.Common.{◌≡◌, ◌∙◌, sym, refl}
use Rattle.std.specs.Prelude.{codes}
use Rattle.std.specs.Str.{chars}
use Rattle.nextest_config_filters.proofs.Characters.{ascii_chars}
use Rattle.nextest_config_filters.proofs.platform.key.is_wrong_width.Goals as goal

width : chars (codes "target_pointer_width") ≡ codes "target_pointer_width"
width = ascii_chars (codes "target_pointer_width") refl

pub returns-then-is_same_text : goal.returns-then-is_same_text
returns-then-is_same_text c =
    rw (sym (rw width at c.is_same_text.ensures) ∙ c.if-is_same_text.true, c.is_number.ensures) refl

pub returns-else-is_same_text : goal.returns-else-is_same_text
returns-else-is_same_text c =
    rw (sym (rw width at c.is_same_text.ensures) ∙ c.if-is_same_text.false, c.if-is_same_text.false) refl

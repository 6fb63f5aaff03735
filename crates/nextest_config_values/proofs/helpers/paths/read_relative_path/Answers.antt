use Rattle.std.proofs.Common.{◌≡◌, ℕ, List, Some, refl, rules, string_bytes}
use Rattle.toml.specs.Data.{Data, as_str}
use Rattle.toml.specs.View.{view}
use Rattle.nextest_config_values.proofs.Faults.{refused_by}
use Rattle.nextest_config_values.specs.Helpers.Paths.{IsRelativePath}
use Rattle.nextest_config_values.specs.Helpers.PathsLaws.{relative_path_in}
use Rattle.nextest_config_values.specs.Read.{text_reading}
use Rattle.nextest_config_values.proofs.helpers.paths.read_relative_path.Goals as goal

-- a value that means a text holds it
held_text : (value : Data) (text : List ℕ) → text_reading.means value text → as_str value ≡ Some text
held_text value text meant = search rules

pub returns-else-is_relative_path-clause-refused : goal.returns-else-is_relative_path-clause-refused
returns-else-is_relative_path-clause-refused c =
    let text = string_bytes c.in_ok-path.path in
    let not_relative : ¬ (IsRelativePath text) = λ h. cc (c.is_relative_path.ensures.1 (rw c.as_str.ensures.value h), c.if-is_relative_path.false) in
    rw (held_text (view c.args.value.now) text c.in_ok-path.ensures.meant)
    (refused_by (relative_path_in text) _ _ c.invalid_value.result
    ((λ path h. not_relative h.1), refl) c.invalid_value.ensures)

use Rattle.std.proofs.Common.{◌≡◌, ◌≢◌, ◌≤◌, arith, length, List, [], ◌∷◌, None, rules, Some}
use Rattle.toml.specs.Data.{as_array, as_str, no_items}
use Rattle.toml.specs.View.{array_view, items_view, view}
use Rattle.toml.specs.declared.value.Value.{Value}
use Rattle.nextest_config_lint.proofs.shapes.forms.check_line.Goals as goal

some_items : (held : List Value) → 1 ≤ length held → items_view held ≢ no_items
some_items [] some = absurd (omega (arith, some))
some_items (first ∷ rest) some = λ none. cc none

pub returns-in-len1-up-clause-meant : goal.returns-in-len1-up-clause-meant
returns-in-len1-up-clause-meant c =
    let no_text : as_str (view c.args.value.now) ≡ None = search rules in
    let array : as_array (view c.args.value.now) ≡ Some (array_view c.in-Some-as_array.array.now) = search rules in
    (tt, rw (no_text, array) (some_items c.in-Some-as_array.array.now.items (rw c.as_slice.ensures.value at c.in-len1-up.len_at_least)))

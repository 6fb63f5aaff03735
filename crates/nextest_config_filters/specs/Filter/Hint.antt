-- What may be meant by what is found.
use Rattle.std.specs.Prelude.{◌≡◌, ℕ, List, [], ◌∷◌, ◌++◌, chars, codes, nat_eq, Option, Some, None, if◌then◌else◌}
use Rattle.std.specs.Cmp.Lexicographic.{pointwise}
use Rattle.std.specs.Str.{trim}
use Rattle.nextest_config_values.specs.NearestWord.{IsNearest, is_same}
use Rattle.nextest_config_filters.specs.Filter.Predicate.{predicate_named, suggested, takes_none}
use Rattle.nextest_config_filters.specs.Text.{meant_by}
use Rattle.nextest_config_filters.specs.declared.fault.Expected.TheVariants as expect
use Rattle.nextest_config_filters.specs.declared.fault.FilterFlaw.{FilterFlaw}
use Rattle.nextest_config_filters.specs.declared.fault.FilterFlaw.TheVariants as flaws
use Rattle.nextest_config_filters.specs.declared.filter.predicate.Predicate.{Predicate}

-- `not` in other letters
abbrev pub expression_hint : List ℕ → Option (List ℕ)
expression_hint found = if is_same found (codes "not") then Some (codes "not") else None

-- `&` of `&&`, `|` of `||`, `and` and `or` in other letters
abbrev pub operator_hint : List ℕ → Option (List ℕ)
operator_hint found =
    if pointwise nat_eq found (codes "&&") then Some (codes "&")
    else if pointwise nat_eq found (codes "||") then Some (codes "|")
    else if is_same found (codes "and") then Some (codes "and")
    else if is_same found (codes "or") then Some (codes "or")
    else None

-- the name of a predicate with what its argument looks like
abbrev pub brackets : Option Predicate → List ℕ
brackets None = codes "(..)"
brackets (Some predicate) = if takes_none predicate then codes "()" else codes "(..)"

-- the nearest name with its argument, or else, where the text is the word but for spaces, the word
-- as the argument of `test`
abbrev pub predicate_hint : List ℕ → List ℕ → Option (List ℕ) → Option (List ℕ)
predicate_hint text found (Some name) = Some (name ++ brackets (predicate_named (chars name)))
predicate_hint text found None =
    if pointwise nat_eq (trim text) found then Some (codes "test(" ++ (found ++ codes ")"))
    else None

-- what other runners and languages call a predicate
abbrev pub other_name : List ℕ → Option (List ℕ)
other_name = meant_by (
    (codes "pkg" ∷ codes "crate" ∷ [], codes "package")
    ∷ (codes "name" ∷ [], codes "test")
    ∷ (codes "bin" ∷ [], codes "binary")
    ∷ (codes "id" ∷ [], codes "binary_id")
    ∷ [])

-- the nearest name, or else what the word is called here
abbrev pub name_hint : List ℕ → Option (List ℕ) → Option (List ℕ)
name_hint found (Some name) = Some name
name_hint found None = other_name found

-- the hint follows from the nearest of the names that are suggested
abbrev pub IsByNearest : List ℕ → (Option (List ℕ) → Option (List ℕ)) → Option (List ℕ) → Type 0
IsByNearest found hint_of hint =
    (nearest : Option (List ℕ)) × IsNearest suggested found nearest × (hint ≡ hint_of nearest)

-- what may be meant by what is found, in a text
abbrev pub IsHint : List ℕ → FilterFlaw → List ℕ → Option (List ℕ) → Type 0
IsHint text (flaws.Unexpected expect.Expression) found hint = hint ≡ expression_hint found
IsHint text (flaws.Unexpected expect.Operator) found hint = hint ≡ operator_hint found
IsHint text (flaws.Unexpected expect.PredicateAndArgument) found hint =
    IsByNearest found (predicate_hint text found) hint
IsHint text flaws.UnknownPredicate found hint = IsByNearest found (name_hint found) hint
IsHint text flaw found hint = hint ≡ None

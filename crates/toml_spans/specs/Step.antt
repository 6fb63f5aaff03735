-- Paths of values in a document, and how they print.
use Rattle.std.specs.Prelude.{ℕ, Bool, true, false, not, ◌&&◌, ◌==◌, List, [], ◌∷◌, ◌++◌, length, flat_map, codes, decimal, if◌then◌else◌, Option, None, Some, option_and_then, string_bytes}
use Rattle.std.specs.List.{list_all}
use Rattle.toml_parser.specs.Lexical.{is_bare}
use Rattle.toml_spans.specs.QuotedText.{quoted_text}
use Rattle.toml_spans.specs.declared.step.Step.{Step}
use Rattle.toml_spans.specs.declared.step.Step.TheVariants.{Index, Key}

-- a step: a key of a table, or an index of an array
pub data PathStep : Type 0 where
  key : List ℕ → PathStep
  index : ℕ → PathStep

-- what is seen of a step: a key by its bytes, or an index
abbrev pub step_of : Step → PathStep
step_of (Key text) = key (string_bytes text)
step_of (Index place) = index place

module _ {A : Type 0} (from : A → PathStep → Option A) where
  -- what steps lead to, one after the other
  abbrev pub follow : List PathStep → A → Option A
  follow [] a = Some a
  follow (step ∷ rest) a = option_and_then (follow rest) (from a step)

  -- what a path leads to, from keys; the empty path leads to nothing
  abbrev pub follow_path : (List ℕ → Option A) → List PathStep → Option A
  follow_path at_key [] = None
  follow_path at_key (key text ∷ rest) = option_and_then (follow rest) (at_key text)
  follow_path at_key (index place ∷ rest) = None

-- a key that needs no quotes: letters and digits of ASCII, `-` and `_`, at least one (TOML 1.1,
-- "Keys")
abbrev pub is_bare_key : List ℕ → Bool
is_bare_key text = not (length text == 0) && list_all is_bare text

-- how a key prints: bare where that is allowed, else between quotes
abbrev pub key_text : List ℕ → List ℕ
key_text text = if is_bare_key text then text else quoted_text text

-- how a step prints, which comes after another one or not
abbrev pub step_text : Bool → PathStep → List ℕ
step_text true (key text) = codes "." ++ key_text text
step_text false (key text) = key_text text
step_text behind (index place) = codes "[" ++ (decimal place ++ codes "]")

-- how a path prints
abbrev pub printed_path : List PathStep → List ℕ
printed_path [] = []
printed_path (step ∷ rest) = step_text false step ++ flat_map (step_text true) rest

-- How what a walk gives stands to what the grammar gives.
use Rattle.std.specs.Prelude.{◌≡◌, ◌<◌, List, ℕ, length, Option, Some, None, Result, IfOk, MatchResult}
use Rattle.std.specs.Borrow.{Bor}
use Rattle.toml_parser.specs.declared.error.ParseError.{ParseError}
use Rattle.toml_parser.specs.declared.error.ParseError.TheVariants as parse_error
use Rattle.toml_parser.specs.Lexical.{Read}
use Rattle.toml_spans.specs.declared.refusal.Refusal.{Refusal}
use Rattle.toml_spans.specs.declared.refusal.Refusal.TheVariants.{Memory, NoDocument}

-- what an error of a reader says of the text: that it is no document, or that memory ran out
abbrev pub refusal_of : ParseError → Refusal
refusal_of parse_error.OutOfMemory = Memory
refusal_of (parse_error.At kind from to) = NoDocument

-- the result is what the grammar gives, as it is seen, unless memory ran out
abbrev pub Gives : {A B : Type 0} → (A → B) → Result A Refusal → Option B → Type 0
Gives seen result expected = MatchResult result (λ a. expected ≡ Some (seen a))
    (λ refusal. refusal ≡ NoDocument → expected ≡ None)

-- the result is what the grammar reads, as it is seen, and the rest of the text, unless memory ran
-- out
abbrev pub Reads : {A B : Type 0} → (A → B) → Result (A × Bor (List ℕ)) Refusal → Read B → Type 0
Reads seen result expected = Gives (λ read. (seen read.0, read.1.now)) result expected

-- less of the text is left than there was
abbrev pub Shortens : {A : Type 0} → List ℕ → Result (A × Bor (List ℕ)) Refusal → Type 0
Shortens text result = IfOk result (λ read. length read.1.now < length text)

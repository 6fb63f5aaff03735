-- The texts of values in refusals.
use Rattle.std.specs.Prelude.{ℕ, Option, Some, None, List, [], ◌∷◌, ◌++◌, map, codes, if◌then◌else◌}
use Rattle.std.specs.Fmt.{signed_decimal}
use denote.Ref.{Bor}
use Rattle.toml.specs.Data.{Data, string, integer, float, boolean, datetime, array, table}
use Rattle.toml_spans.specs.QuotedText.{quoted_text}

-- texts with a comma and a space between
abbrev pub comma_list : List (List ℕ) → List ℕ
comma_list [] = []
comma_list (text ∷ []) = text
comma_list (text ∷ next ∷ rest) = text ++ (codes ", " ++ comma_list (next ∷ rest))

-- texts between double quotes, with commas between
abbrev pub quoted_texts : List (List ℕ) → List ℕ
quoted_texts texts = comma_list (map quoted_text texts)

-- words without where they lie in memory
abbrev pub words_of : List (Bor (List ℕ)) → List (List ℕ)
words_of = map (λ word. word.now)

-- a word between backquotes
abbrev pub backquoted_word : List ℕ → List ℕ
backquoted_word word = codes "`" ++ (word ++ codes "`")

-- words between backquotes, with commas between
abbrev pub backquoted_words : List (List ℕ) → List ℕ
backquoted_words words = comma_list (map backquoted_word words)

-- words as a refusal lists them: one, two, or more
abbrev pub words_text : List (List ℕ) → List ℕ
words_text [] = []
words_text (word ∷ []) = backquoted_word word
words_text (word ∷ other ∷ []) = backquoted_word word ++ (codes " or " ++ backquoted_word other)
words_text (word ∷ other ∷ third ∷ rest) =
    codes "one of " ++ backquoted_words (word ∷ other ∷ third ∷ rest)

-- a value, as a refusal says that it was found: by its kind, of those of TOML 1.1
abbrev pub found_text : Data → List ℕ
found_text (boolean truth) =
    codes "boolean `" ++ ((if truth then codes "true" else codes "false") ++ codes "`")
found_text (integer number) = codes "integer `" ++ (signed_decimal number ++ codes "`")
found_text (string text) = codes "string " ++ quoted_text text
found_text (array elements) = codes "sequence"
found_text (table entries) = codes "map"
found_text (float number) = codes "floating point"
found_text (datetime moment) = codes "datetime"

-- how a refusal prints: the fault that it tells, or that memory was refused
abbrev pub text_or_memory : {F : Type 0} → (F → List ℕ) → Option F → List ℕ
text_or_memory text (Some fault) = text fault
text_or_memory text None = codes "out of memory"

-- the refusal tells a fault of which this holds; or it tells none, and says that memory was refused
abbrev pub FaultOrMemory : {F : Type 0} → Option F → Type 0 → (F → Type 0) → Type 0
FaultOrMemory (Some fault) of_memory IsFault = IsFault fault
FaultOrMemory None of_memory IsFault = of_memory

-- The grammar of filters as nextest's documentation has it, apart from how they are read. Which
-- operator binds tighter changes nothing of what is a filter, so it has no levels.
use Rattle.std.specs.Prelude.{◌≡◌, ℕ, ◌≤◌, ◌⊎◌, true, List, [], ◌∷◌, ◌++◌, codes, length}
use Rattle.std.specs.Char.{is_ascii_hexdigit}
use Rattle.std.specs.List.{AllByRecursion}
use Rattle.toml_spans.specs.Characters.{backslash, carriage_return, hyphen, line_feed, plus_sign, slash}
use Rattle.nextest_config_filters.specs.Filter.Predicate.{name_of}
use Rattle.nextest_config_filters.specs.Filter.Regex.{is_pattern, unescaped}
use Rattle.nextest_config_filters.specs.Front.{ampersand, bar, closing, closing_brace, comma, exclamation_mark, number_sign, opening, opening_brace, space}
use Rattle.nextest_config_filters.specs.declared.filter.FilterPlace.{FilterPlace}
use Rattle.nextest_config_filters.specs.declared.filter.FilterPlace.TheVariants as places
use Rattle.nextest_config_filters.specs.declared.filter.predicate.Predicate.{Predicate}
use Rattle.nextest_config_filters.specs.declared.filter.predicate.Predicate.TheVariants as predicates

-- ---- blanks

-- spaces, line feeds, and carriage returns each right before one
pub data AreBlanks : List ℕ → Type 0 where
  no_blank : AreBlanks []
  a_space : (cs : List ℕ) → AreBlanks cs → AreBlanks (space ∷ cs)
  a_line_feed : (cs : List ℕ) → AreBlanks cs → AreBlanks (line_feed ∷ cs)
  a_line_end : (cs : List ℕ) → AreBlanks cs → AreBlanks (carriage_return ∷ line_feed ∷ cs)

-- the text begins with one
abbrev pub BeginsWithBlank : List ℕ → Type 0
BeginsWithBlank [] = ⊥
BeginsWithBlank (c ∷ cs) =
    (c ≡ space) ⊎ (c ≡ line_feed)
    ⊎ ((c ≡ carriage_return) × (rest : List ℕ) × (cs ≡ line_feed ∷ rest))

-- ---- texts

-- a character that stands for itself in a text: none of `)`, `,` and a backslash
pub record IsPlain (c : ℕ) : Type 0 where
  pub no_closing : (c ≡ closing) → ⊥
  pub no_comma : (c ≡ comma) → ⊥
  pub no_backslash : (c ≡ backslash) → ⊥

-- the second character of an escape: one of `n`, `r`, `t`, `b`, `f`, a backslash, `/`, `)` and `,`
pub data IsEscaped : ℕ → Type 0 where
  new_line : IsEscaped 110
  return : IsEscaped 114
  tabulator : IsEscaped 116
  backspace : IsEscaped 98
  form_feed : IsEscaped 102
  a_backslash : IsEscaped backslash
  a_slash : IsEscaped slash
  a_closing : IsEscaped closing
  a_comma : IsEscaped comma

-- 1 to 6 hexadecimal digits
pub record AreCodeDigits (digits : List ℕ) : Type 0 where
  pub hexadecimal : AllByRecursion (λ c. is_ascii_hexdigit c ≡ true) digits
  pub some : 1 ≤ length digits
  pub few : length digits ≤ 6

-- characters and escapes; `u` is 117
pub data ArePieces : List ℕ → Type 0 where
  no_piece : ArePieces []
  a_character : (c : ℕ) (cs : List ℕ) → IsPlain c → ArePieces cs → ArePieces (c ∷ cs)
  an_escape : (c : ℕ) (cs : List ℕ) → IsEscaped c → ArePieces cs → ArePieces (backslash ∷ c ∷ cs)
  a_code : (digits cs : List ℕ) → AreCodeDigits digits → ArePieces cs
      → ArePieces (backslash ∷ 117 ∷ opening_brace ∷ (digits ++ (closing_brace ∷ cs)))

-- a text has one of `=` (61), `~` (126) and `#` before it, or begins neither with `/` nor a blank
pub data IsText : List ℕ → Type 0 where
  marked : (mark : ℕ) (c : ℕ) (cs : List ℕ) → (mark ≡ 61) ⊎ (mark ≡ 126) ⊎ (mark ≡ number_sign)
      → ArePieces (c ∷ cs) → IsText (mark ∷ c ∷ cs)
  unmarked : (c : ℕ) (cs : List ℕ) → ArePieces (c ∷ cs) → (c ≡ slash → ⊥)
      → (BeginsWithBlank (c ∷ cs) → ⊥)
      → IsText (c ∷ cs)

-- ---- regular expressions

-- what stands behind the first `/`, with the second: no `/` stands in it but behind a backslash,
-- and no pair of backslashes right before a `/`
pub data IsRegexRest : List ℕ → Type 0 where
  the_end : IsRegexRest (slash ∷ [])
  another : (c : ℕ) (cs : List ℕ) → (c ≡ slash → ⊥) → (c ≡ backslash → ⊥) → IsRegexRest cs
      → IsRegexRest (c ∷ cs)
  a_pair : (c : ℕ) (cs : List ℕ) → (c ≡ backslash → (rest : List ℕ) → cs ≡ slash ∷ rest → ⊥)
      → IsRegexRest cs
      → IsRegexRest (backslash ∷ c ∷ cs)

-- ---- predicates

-- `default` stands in no default filter
abbrev pub MayAsk : FilterPlace → Predicate → Type 0
MayAsk places.DefaultFilter predicates.Default = ⊥
MayAsk place predicate = Unit {0}

-- an argument of a text or a regular expression
pub data IsPattern : List ℕ → Type 0 where
  a_text : (cs : List ℕ) → IsText cs → IsPattern cs
  a_regex : (text : List ℕ) → IsRegexRest (text ++ (slash ∷ []))
      → is_pattern (unescaped text) ≡ true
      → IsPattern (slash ∷ (text ++ (slash ∷ [])))

-- an argument: none, one of two words, or a pattern
abbrev pub IsArgument : Predicate → List ℕ → Type 0
IsArgument predicates.All argument = argument ≡ []
IsArgument predicates.None argument = argument ≡ []
IsArgument predicates.Default argument = argument ≡ []
IsArgument predicates.Platform argument = (argument ≡ codes "host") ⊎ (argument ≡ codes "target")
IsArgument predicate argument = IsPattern argument

-- a name, `(`, the argument, `)`, with blanks between
pub record IsPredicate (place : FilterPlace) (cs : List ℕ) : Type 0 where
  pub predicate : Predicate
  pub argument : List ℕ
  pub before : List ℕ
  pub first : List ℕ
  pub last : List ℕ
  pub may_ask : MayAsk place predicate
  pub is_argument : IsArgument predicate argument
  pub before_blank : AreBlanks before
  pub first_blank : AreBlanks first
  pub last_blank : AreBlanks last
  pub whole : cs
      ≡ name_of predicate
      ++ (before ++ (opening ∷ (first ++ (argument ++ (last ++ (closing ∷ []))))))

-- ---- expressions

-- one of `and` and `or`
abbrev pub IsWord : List ℕ → Type 0
IsWord word = (word ≡ codes "and") ⊎ (word ≡ codes "or")

-- one of `&`, `|`, `+` and `-`
abbrev pub IsSign : ℕ → Type 0
IsSign c = (c ≡ ampersand) ⊎ (c ≡ bar) ⊎ (c ≡ plus_sign) ⊎ (c ≡ hyphen)

-- a predicate; `not`, blanks, an expression; `!` and an expression; one in parentheses; two with an
-- operator between, behind a word with a blank. Blanks may stand between any two of these
pub data IsExpression (place : FilterPlace) : List ℕ → Type 0 where
  a_predicate : (cs : List ℕ) → IsPredicate place cs → IsExpression place cs
  a_negation : (c : ℕ) (blanks cs : List ℕ) → AreBlanks (c ∷ blanks) → IsExpression place cs
      → IsExpression place (codes "not" ++ ((c ∷ blanks) ++ cs))
  a_marked : (blanks cs : List ℕ) → AreBlanks blanks → IsExpression place cs
      → IsExpression place (exclamation_mark ∷ (blanks ++ cs))
  a_group : (first cs last : List ℕ) → AreBlanks first → IsExpression place cs → AreBlanks last
      → IsExpression place (opening ∷ (first ++ (cs ++ (last ++ (closing ∷ [])))))
  by_word : (one first word : List ℕ) (c : ℕ) (blanks other : List ℕ)
      → IsExpression place one → AreBlanks first
      → IsWord word → AreBlanks (c ∷ blanks) → IsExpression place other
      → IsExpression place (one ++ (first ++ (word ++ ((c ∷ blanks) ++ other))))
  by_sign : (one first : List ℕ) (sign : ℕ) (last other : List ℕ)
      → IsExpression place one → AreBlanks first
      → IsSign sign → AreBlanks last → IsExpression place other
      → IsExpression place (one ++ (first ++ (sign ∷ (last ++ other))))

-- a filter as it is documented: an expression between blanks
pub record IsDocumentedFilter (place : FilterPlace) (cs : List ℕ) : Type 0 where
  pub first : List ℕ
  pub expression : List ℕ
  pub last : List ℕ
  pub first_blank : AreBlanks first
  pub is_expression : IsExpression place expression
  pub last_blank : AreBlanks last
  pub whole : cs ≡ first ++ (expression ++ last)

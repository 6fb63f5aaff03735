-- Nothing is reported of a documented platform: what leads on, and what is read of words.
use Rattle.std.proofs.Common.{◌≡◌, ℕ, true, false, List, [], ◌∷◌, ◌++◌, nat_eq, Some, None, refl, sym, ap, ◌∙◌, inl, inr, eqb-true}
use Rattle.std.specs.Prelude.{◌==◌, ◌&&◌, ◌||◌, ◌⊎◌, codes}
use Rattle.std.proofs.lemmas.Bool.{cases_Bool}
use Rattle.std.proofs.lemmas.Bool.Decides.{nat_tests}
use Rattle.std.proofs.Common.{arith}
use Rattle.std.specs.Char.{is_ascii_digit, is_whitespace}
use Rattle.std.specs.Cmp.Lexicographic.{pointwise, same_text}
use Rattle.std.specs.List.{AllByRecursion, list_all}
use Rattle.std.specs.Str.{skip_leading_whitespace as behind_spaces}
use Rattle.toml_spans.specs.Characters.{double_quote}
use Rattle.nextest_config_filters.specs.Front.{begins, begins_key, behind_run, closing, comma, in_key, in_run, number_sign, run}
use Rattle.nextest_config_filters.specs.Platform.Grammar.{AreSpaces, IsIdentifier, IsKey, IsValueOf}
use Rattle.nextest_config_filters.specs.Platform.Key.{families, groups, is_number, is_wrong_width, key_flaw}
use Rattle.nextest_config_filters.specs.Platform.Member.{is_raw, read, read_follower, read_group, read_key, read_word, reading_at, takes_member}
use Rattle.nextest_config_filters.specs.Platform.Reading.{member}
use Rattle.nextest_config_filters.specs.Platform.Walk.{Finds, next, next_of, Outcome, outcome_at, outcome_of, State}
use Rattle.nextest_config_filters.specs.Text.{is_one_of}
use Rattle.nextest_config_filters.specs.declared.front.Run.TheVariants as runs
use Rattle.nextest_config_filters.specs.declared.platform.reading.After.{After}
use Rattle.nextest_config_filters.specs.declared.platform.reading.Level.{Level}
use Rattle.nextest_config_filters.proofs.Fronts.{run_over}
use Rattle.nextest_config_filters.proofs.Steps.{alike as walked_alike}
use Rattle.nextest_config_filters.proofs.Tests.{and_false, differs}

-- ---- what is found behind a state

abbrev pub at : After → Level → List Level → List ℕ → State
at before level outer cs = record { before = before; level = level; outer = outer; rest = cs }

-- where the same stands behind spaces, the same is found
pub alike : (found : Outcome) (before : After) (level : Level) (outer : List Level) (cs ds : List ℕ)
    → behind_spaces cs ≡ behind_spaces ds → Finds (at before level outer cs) found → Finds (at before level outer ds) found
unfolding reading_at
alike found before level outer cs ds same is =
    let reading = ap (read before) same in
    walked_alike next outcome_at found (at before level outer cs) (at before level outer ds)
    (ap (λ r. next_of r level outer) reading) (ap (λ r. outcome_of r before level outer) reading) is

-- ---- spaces

pub spaces_behind : (spaces cs : List ℕ) → AreSpaces spaces → behind_spaces (spaces ++ cs) ≡ behind_spaces cs
spaces_behind [] cs are = refl
spaces_behind (s ∷ spaces) cs are = rw are.0 (spaces_behind spaces cs are.1)

space_no_key : (c : ℕ) → is_whitespace c ≡ true → in_key c ≡ false
space_no_key c white = grind (arith, nat_tests)

pub key_no_space : (c : ℕ) → begins_key c ≡ true → is_whitespace c ≡ false
key_no_space c begins = elim (cases_Bool (is_whitespace c)) [
  | inr other ↦ other
  | inl white ↦
      let in_one : in_key c ≡ true = ap (λ b. b || is_ascii_digit c) begins in
      let no : true ≡ false = sym in_one ∙ space_no_key c white in cc no
]

-- a space isn't this character
no_space : (s c : ℕ) → is_whitespace s ≡ true → is_whitespace c ≡ false → (c == s) ≡ false
no_space s c white other = elim (cases_Bool (c == s)) [
  | inr differs ↦ differs
  | inl same ↦ let no : true ≡ false = sym white ∙ ap is_whitespace (sym (eqb-true c s same)) ∙ other in cc no
]

-- ---- what stands behind a word

-- neither goes the word on, nor does it with the character before make `r#`
pub record Follows (cs : List ℕ) : Type 0 where
  pub no_key : run in_key cs ≡ []
  pub no_sign : begins number_sign cs ≡ false

pub follows : (spaces : List ℕ) (c : ℕ) (rest : List ℕ) → AreSpaces spaces → in_key c ≡ false → (number_sign == c) ≡ false
    → Follows (spaces ++ (c ∷ rest))
follows [] c rest are no_key no_sign = record { no_key = rw no_key refl; no_sign = no_sign }
follows (s ∷ spaces) c rest are no_key no_sign =
    record { no_key = rw (space_no_key s are.0) refl; no_sign = no_space s number_sign are.0 refl }

-- spaces, and a comma or a parenthesis that closes
pub record Tail (cs : List ℕ) : Type 0 where
  pub spaces : List ℕ
  pub c : ℕ
  pub rest : List ℕ
  pub whole : cs ≡ spaces ++ (c ∷ rest)
  pub are : AreSpaces spaces
  pub is : (c ≡ comma) ⊎ (c ≡ closing)

tail_follows_by : (spaces : List ℕ) (c : ℕ) (rest : List ℕ) → AreSpaces spaces → (c ≡ comma) ⊎ (c ≡ closing)
    → Follows (spaces ++ (c ∷ rest))
tail_follows_by spaces c rest are (inl is) = rw is (follows spaces comma rest are refl refl)
tail_follows_by spaces c rest are (inr is) = rw is (follows spaces closing rest are refl refl)

pub tail_follows : (cs : List ℕ) → Tail cs → Follows cs
tail_follows cs tail = rw tail.whole (tail_follows_by tail.spaces tail.c tail.rest tail.are tail.is)

pub no_space_there : (c : ℕ) (rest : List ℕ) → (c ≡ comma) ⊎ (c ≡ closing) → behind_spaces (c ∷ rest) ≡ c ∷ rest
no_space_there c rest (inl is) = rw is refl
no_space_there c rest (inr is) = rw is refl

pub tail_begins : (cs : List ℕ) (tail : Tail cs) → behind_spaces cs ≡ tail.c ∷ tail.rest
tail_begins cs tail =
    ap behind_spaces tail.whole ∙ spaces_behind tail.spaces (tail.c ∷ tail.rest) tail.are
    ∙ no_space_there tail.c tail.rest tail.is

-- ---- words

no_sign_in : (others rest : List ℕ) → AllByRecursion (λ c. in_key c ≡ true) others → begins number_sign rest ≡ false
    → begins number_sign (others ++ rest) ≡ false
no_sign_in [] rest all none = none
no_sign_in (c ∷ others) rest all none = elim (cases_Bool (number_sign == c)) [
  | inr differs ↦ differs
  | inl same ↦ let no : true ≡ false = sym all.0 ∙ ap in_key (sym (eqb-true number_sign c same)) in cc no
]

module _ (word rest : List ℕ) (is : IsIdentifier word) (behind : Follows rest) where
  all_in : AllByRecursion (λ c. in_key c ≡ true) word
  all_in = rw is.whole (ap (λ b. b || is_ascii_digit is.first) is.begins, is.goes_on)

  pub word_run : run in_key (word ++ rest) ≡ word
  word_run = (run_over in_key word rest all_in behind.no_key).0

  pub word_behind : behind_run in_key (word ++ rest) ≡ rest
  word_behind = (run_over in_key word rest all_in behind.no_key).1

  raw_none : is_raw is.first (is.others ++ rest) ≡ false
  raw_none =
      ap (λ b. (is.first == 114) && b) (no_sign_in is.others rest is.goes_on behind.no_sign)
      ∙ and_false (is.first == 114)

  word_read : (before : After) → takes_member before ≡ true → reading_at before (word ++ rest) ≡ read_word (word ++ rest)
  unfolding reading_at
  word_read before takes =
      let cons : word ++ rest ≡ is.first ∷ (is.others ++ rest) = ap (λ w. w ++ rest) is.whole in
      let kept : behind_spaces (word ++ rest) ≡ word ++ rest =
      rw cons (rw (key_no_space is.first is.begins) refl) in
      ap (read before) kept
      ∙ rw cons (rw (raw_none, is.begins, takes) refl)

  pub group_reading : (before : After) → takes_member before ≡ true → is_one_of word groups ≡ true
      → reading_at before (word ++ rest) ≡ read_group (word ++ rest) (behind_spaces rest)
  group_reading before takes group =
      word_read before takes ∙ rw (word_run, word_behind, group) refl

  pub key_reading : (before : After) → takes_member before ≡ true → is_one_of word groups ≡ false
      → reading_at before (word ++ rest) ≡ read_key (word ++ rest) (behind_spaces rest)
  key_reading before takes other =
      word_read before takes ∙ rw (word_run, word_behind, other) refl

-- ---- values

pub value_run : (value rest : List ℕ) → AllByRecursion (λ c. c ≡ double_quote → ⊥) value
    → (run (in_run runs.Value) (value ++ (double_quote ∷ rest)) ≡ value)
    × (behind_run (in_run runs.Value) (value ++ (double_quote ∷ rest)) ≡ double_quote ∷ rest)
value_run [] rest all = (refl, refl)
value_run (c ∷ value) rest all =
    let inner = value_run value rest all.1 in
    rw (differs c double_quote all.0) (ap (λ v. c ∷ v) inner.0, inner.1)

all_digits : (value : List ℕ) → AllByRecursion (λ c. is_ascii_digit c ≡ true) value → list_all is_ascii_digit value ≡ true
all_digits [] all = refl
all_digits (c ∷ value) all = rw all.0 (all_digits value all.1)

number_is : (value : List ℕ) → AllByRecursion (λ c. is_ascii_digit c ≡ true) value → (value ≡ [] → ⊥) → is_number value ≡ true
number_is [] all some = absurd (some refl)
number_is (c ∷ value) all some = all_digits (c ∷ value) all

right_width : (key value : List ℕ) → IsValueOf key value → is_wrong_width key value ≡ false
right_width key value value_is = elim (cases_Bool (pointwise nat_eq key (codes "target_pointer_width"))) [
  | inr other ↦ rw other refl
  | inl width ↦
      let number = value_is.number (same_text key (codes "target_pointer_width") (sym width)) in
      rw (width, number_is value number.0 number.1) refl
]

no_flaw : (key value : List ℕ) → IsKey key → is_one_of key families ≡ false → IsValueOf key value
    → key_flaw key (Some value) ≡ None
no_flaw key value is no_family value_is =
    rw (no_family, right_width key value value_is, is.known) refl

pub follower_is : (c : ℕ) → (c ≡ comma) ⊎ (c ≡ closing) → (c == comma || c == closing) ≡ true
follower_is c (inl same) = rw same refl
follower_is c (inr same) = rw same refl

-- what is read of the key at the front of a text, whose value ends before this
pub follower_reading : (key value : List ℕ) (cs tail : List ℕ) → IsKey key → is_one_of key families ≡ false → IsValueOf key value
    → run in_key cs ≡ key → (end : Tail tail)
    → read_follower cs (Some value) (behind_spaces tail) ≡ member (end.c ∷ end.rest)
follower_reading key value cs tail is no_family value_is ran end =
    rw (tail_begins tail end, follower_is end.c end.is, ran, no_flaw key value is no_family value_is) refl

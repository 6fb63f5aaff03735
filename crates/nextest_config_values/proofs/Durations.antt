-- What the steps of reading a duration have read, and that their faults are those of the text.
use Rattle.std.proofs.Common.{◌≡◌, ◌≢◌, ℕ, ◌+◌, ◌-◌, ◌*◌, ◌<◌, ◌^◌, List, [], ◌∷◌, ◌++◌, length, Some, None, refl, sym, ap, ◌∙◌, subst, inl, inr, rules, arith}
use Rattle.std.specs.Prelude.{min, IsTrue, Err, Ok, Result, chars, encode_utf8_all}
use Rattle.std.proofs.lemmas.Bool.{cases_Bool}
use Rattle.std.proofs.lemmas.List.{append_assoc, length-append}
use Rattle.std.proofs.lemmas.Str.{chars-encodes, chars_from_encodes, encodes-append, encodes-chars}
use Rattle.std.specs.Char.{is_ascii_digit, is_whitespace}
use Rattle.std.specs.Duration.{FitsDuration}
use Rattle.std.specs.Str.{IsUtf8, skip_leading_whitespace, trim_start}
use Rattle.std.proofs.lemmas.Str.Parse.{IsNumeralModel, numerals_by_value, parse_digits}
use Rattle.std.specs.Str.Parse.{ParsesUnsigned, digits_value}
use Rattle.std.specs.Result.{OkIff}
use Rattle.toml_spans.proofs.Elements.{all_joined, all_weaker}
use Rattle.nextest_config_values.proofs.Texts.{ascii_encoded}
use Rattle.nextest_config_values.specs.Duration.Fronts.{fault_stops, longest_front, run_begins, white_no_end}
use Rattle.nextest_config_values.specs.Duration.{AreAll, AreFittingDigits, BeginsWith, EndsWith, HasNumberThatFits, is_in_word, IsCutAfter, IsDuration, IsDurationFault, IsFaultAt, IsFaultAfter, IsFront, IsItemText, IsNext, IsNextFault, IsReadItem, IsRun, IsUncut, Item, nothing_stops, offset, Spells, total, unit_length}
use Rattle.nextest_config_values.specs.declared.duration.DurationFault.{DurationFault}
use Rattle.nextest_config_values.specs.declared.duration.DurationFault.TheVariants as faults

-- ---- offsets

pub offset_of_text : (text : List ℕ) → IsUtf8 text → offset (chars text) ≡ length text
offset_of_text text u = ap length (encodes-chars text u)

pub offset_after : (front behind : List ℕ) → offset (front ++ behind) ≡ offset front + offset behind
offset_after front behind = ap length (encodes-append front behind) ∙ length-append (encode_utf8_all front) (encode_utf8_all behind)

-- ---- runs

-- white space in front of what doesn't begin with any
pub record IsTrimmed (text space behind : List ℕ) : Type 0 where
  pub whole : text ≡ space ++ behind
  pub run : IsRun is_whitespace space behind

skipped : (cs : List ℕ) → (space : List ℕ) × IsTrimmed cs space (skip_leading_whitespace cs)
skipped [] = ([], record { whole = refl; run = record { inside = tt; over = λ begins. begins } })
skipped (c ∷ cs) = elim (cases_Bool (is_whitespace c)) [
  | inl white ↦ let inner = skipped cs in rw white (c ∷ inner.0, record { whole = ap (λ rest. c ∷ rest) inner.1.whole; run = record { inside = (white, inner.1.run.inside); over = inner.1.run.over } })
  | inr other ↦ rw other ([], record { whole = refl; run = record { inside = tt; over = search rules } })
]

-- the clause of `trim_start`
pub trimmed : (text rest : List ℕ) → IsUtf8 rest → rest ≡ trim_start text → (space : List ℕ) × IsTrimmed (chars text) space (chars rest)
unfolding trim_start
trimmed text rest u e = rw (← chars_from_encodes (skip_leading_whitespace (chars text)) rest u (sym e)) (skipped (chars text))

-- digits, white space and a word, each possibly empty
module _ {text digits behind gap after word rest : List ℕ} where
  next_of : text ≡ digits ++ behind → IsRun is_ascii_digit digits behind → IsTrimmed behind gap after → after ≡ word ++ rest
      → IsRun is_in_word word rest → IsNext text digits gap word rest
  next_of whole of_digits trim cut of_word = search rules

-- ---- the digits of a number

own : IsNumeralModel (AreAll is_ascii_digit) (digits_value 10)
own = numerals_by_value (AreAll is_ascii_digit) (record { empty = tt; parts = λ c cs h. search rules; more = λ c cs is rest. search rules })

-- digits are the same by bytes and by characters
digits_same : (text : List ℕ) → IsUtf8 text → AreAll is_ascii_digit (chars text) → text ≡ chars text
digits_same text u h = sym (encodes-chars text u) ∙ ascii_encoded (chars text)
    (all_weaker (λ c. IsTrue (is_ascii_digit c)) (λ b. b < 128) (λ c digit. search rules) (chars text) h)

-- what `parse` answers of digits
pub parsed : {E : Type 0} (text : List ℕ) (r : Result ℕ E) → IsUtf8 text → AreAll is_ascii_digit (chars text) → ParsesUnsigned 64 10 text r → OkIff r ((0 < length text) × (digits_value 10 (chars text) < 2 ^ 64)) (digits_value 10 (chars text))
parsed text r u h p =
    let same = digits_same text u h in
    subst (λ t. OkIff r ((0 < length text) × (digits_value 10 t < 2 ^ 64)) (digits_value 10 t)) same (parse_digits own 64 text r p (subst (AreAll is_ascii_digit) (sym same) h))

-- ---- the steps of reading an item

pub chars_nil : (text : List ℕ) → length text ≡ 0 → chars text ≡ []
chars_nil [] e = chars-encodes [] refl
chars_nil (c ∷ text) e = absurd (omega (arith, e))

pub chars_some : (text : List ℕ) → IsUtf8 text → 0 < length text → chars text ≢ []
chars_some text u some e = omega (arith, some, ap length (sym (encodes-chars text u) ∙ ap encode_utf8_all e))

module _ (place : ℕ) {text digits behind : List ℕ} (cut : IsCutAfter is_ascii_digit text digits behind) where
  -- a fault of the digits, whatever follows
  at_digits : (fault : DurationFault) → ((gap word : List ℕ) → IsNextFault place (chars digits) gap word fault)
      → IsFaultAt place (chars text) fault
  at_digits fault told =
      let gap = skipped (chars behind) in
      let letters = run_begins is_in_word (skip_leading_whitespace (chars behind)) in
      (chars digits, gap.0, letters.0, letters.1, next_of cut.characters cut.is_run gap.1 letters.2 letters.3, told gap.0 letters.0)

  pub number_expected : length digits ≡ 0 → IsFaultAt place (chars text) (faults.NumberExpected place)
  number_expected none = at_digits (faults.NumberExpected place) (λ gap word. (chars_nil digits none, refl))

  pub number_too_large : {E : Type 0} (e : E) → 0 < length digits → ParsesUnsigned 64 10 digits (Err e) → IsFaultAt place (chars text) (faults.NumberTooLarge place)
  number_too_large e some p =
      let large : ¬ (digits_value 10 (chars digits) < 2 ^ 64) = λ fits. parsed digits (Err e) cut.run_utf8 cut.is_run.inside p (some, fits) in
      at_digits (faults.NumberTooLarge place) (λ gap word. (omega (arith, large), refl))

-- after a number that fits
module _ (place : ℕ) {text digits behind trimmed_text word rest : List ℕ} (text_utf8 : IsUtf8 text) (trimmed_utf8 : IsUtf8 trimmed_text)
    (cut : IsCutAfter is_ascii_digit text digits behind) (is_trimmed : trimmed_text ≡ trim_start behind)
    (letters : IsCutAfter is_in_word trimmed_text word rest)
    {E : Type 0} (answer : Result ℕ E) (parses : ParsesUnsigned 64 10 digits answer) (number : ℕ) (is : answer ≡ Ok number) where
  gap : (space : List ℕ) × IsTrimmed (chars behind) space (chars trimmed_text)
  gap = trimmed behind trimmed_text trimmed_utf8 is_trimmed

  is_number : ((0 < length digits) × (digits_value 10 (chars digits) < 2 ^ 64)) × (number ≡ digits_value 10 (chars digits))
  is_number = rw is at (parsed digits answer cut.run_utf8 cut.is_run.inside parses)

  next : IsNext (chars text) (chars digits) gap.0 (chars word) (chars rest)
  next = next_of cut.characters cut.is_run gap.1 letters.characters letters.is_run

  word_place : place + (length text - length trimmed_text) ≡ place + offset (chars digits ++ gap.0)
  word_place =
      let front = chars digits ++ gap.0 in
      let parts : chars text ≡ front ++ chars trimmed_text = cut.characters ∙ ap (λ r. chars digits ++ r) gap.1.whole
      ∙ sym (append_assoc (chars digits) gap.0 (chars trimmed_text)) in
      omega (
        arith,
        offset_of_text text text_utf8,
        ap offset parts,
        offset_after front (chars trimmed_text),
        offset_of_text trimmed_text trimmed_utf8,
      )

  fitting : AreFittingDigits (chars digits)
  fitting = (chars_some digits cut.run_utf8 is_number.0.0, is_number.0.1)

  pub unit_missing : length word ≡ 0 → IsFaultAt place (chars text) (faults.UnitMissing (place + (length text - length trimmed_text)))
  unit_missing none = (chars digits, gap.0, chars word, chars rest, next, (fitting, chars_nil word none, word_place))

  pub unit_unknown : 0 < length word → unit_length (chars word) ≡ None → IsFaultAt place (chars text) (faults.UnitUnknown (place + (length text - length trimmed_text)))
  unit_unknown some unknown = (chars digits, gap.0, chars word, chars rest, next, (fitting, chars_some word letters.run_utf8 some, unknown, word_place))

  pub read : (unit : ℕ) → unit_length (chars word) ≡ Some unit → IsReadItem (chars text) (number * unit) (chars rest)
  read unit known = record {
    item = record { number = number; unit = unit };
    here = chars digits ++ (gap.0 ++ chars word);
    whole = next.whole ∙ sym (append_assoc (chars digits) (gap.0 ++ chars word) (chars rest) ∙ ap (λ r. chars digits ++ r)
        (append_assoc gap.0 (chars word) (chars rest)));
    is_item = record {
      space = [];
      digits = chars digits;
      gap = gap.0;
      word = chars word;
      whole = refl;
      space_is_white = tt;
      some_digits = fitting.0;
      digits_are = cut.is_run.inside;
      number_is = sym is_number.1;
      gap_is_white = gap.1.run.inside;
      unit_is = known;
    };
    fits = omega (arith, is_number.0.1, is_number.1);
    length_is = refl;
    over = letters.is_run.over;
  }

-- ---- the way through a text

no_end_after : (front : List ℕ) (c : ℕ) (cs : List ℕ) → AreAll is_whitespace (c ∷ cs) → ¬ EndsWith is_in_word (front ++ (c ∷ cs))
no_end_after [] c cs h ends = white_no_end (c ∷ cs) h ends
no_end_after (x ∷ []) c cs h ends = white_no_end (c ∷ cs) h ends
no_end_after (x ∷ y ∷ front) c cs h ends = no_end_after (y ∷ front) c cs h ends

item_after_white : (space text : List ℕ) (item : Item) → AreAll is_whitespace space → IsItemText text item → IsItemText (space ++ text) item
item_after_white space text item white h = record {
  space = space ++ h.space;
  digits = h.digits;
  gap = h.gap;
  word = h.word;
  whole = ap (λ t. space ++ t) h.whole ∙ sym (append_assoc space h.space (h.digits ++ (h.gap ++ h.word)));
  space_is_white = all_joined (λ c. IsTrue (is_whitespace c)) space h.space white h.space_is_white;
  some_digits = h.some_digits;
  digits_are = h.digits_are;
  number_is = h.number_is;
  gap_is_white = h.gap_is_white;
  unit_is = h.unit_is;
}

-- two spellings in a row
spells_both : (items more : List Item) (front text : List ℕ) → Spells items front → Spells more text → Spells (items ++ more) (front ++ text)
spells_both [] [] front text a b = all_joined (λ c. IsTrue (is_whitespace c)) front text a b
spells_both [] (item ∷ more) front text a (here, behind, whole, h, b) =
    (front ++ here, behind, ap (λ t. front ++ t) whole ∙ sym (append_assoc front here behind), item_after_white front here item a h, b)
spells_both (item ∷ items) more front text (here, behind, whole, h, a) b =
    (here, behind ++ text, ap (λ t. t ++ text) whole ∙ append_assoc here behind text, h, spells_both items more behind text a b)

total_both : (items more : List Item) → total (items ++ more) ≡ total items + total more
total_both [] more = omega arith
total_both (item ∷ items) more = ap (λ n. item.number * item.unit + n) (total_both items more) ∙ omega arith

-- the text is read up to what is left, and the items so far come to that many nanoseconds, or more than a u128 holds
pub record IsReadUpTo (text left : List ℕ) (nanoseconds : ℕ) : Type 0 where
  pub front : List ℕ
  pub items : List Item
  pub is_front : IsFront text front left items
  pub no_space : ¬ BeginsWith is_whitespace left
  pub sum : nanoseconds ≡ min (total items) (2 ^ 128 - 1)
  pub some : left ≡ [] → items ≢ []

-- before the first item
pub begun : {text space left : List ℕ} → IsTrimmed text space left → left ≢ [] → IsReadUpTo text left 0
begun {space = space} trim some = record {
  front = space;
  items = [];
  is_front = record { whole = trim.whole; spelled = trim.run.inside; fit = tt; uncut = λ ends. absurd (white_no_end space trim.run.inside ends) };
  no_space = trim.run.over;
  sum = refl;
  some = λ none. absurd (some none);
}

uncut_more : (front here space left : List ℕ) → ¬ BeginsWith is_in_word (space ++ left) → AreAll is_whitespace space → IsUncut (front ++ (here ++ space)) left
uncut_more front here [] left over white = λ ends. over
uncut_more front here (c ∷ space) left over white = λ ends. absurd (no_end_after (front ++ here) c space white (rw (← append_assoc front here (c ∷ space)) at ends))

-- one item more
pub read_more : (text left behind rest space : List ℕ) (nanoseconds more : ℕ) → IsReadUpTo text left nanoseconds → IsReadItem left more behind → IsTrimmed behind space rest
    → IsReadUpTo text rest (min (nanoseconds + more) (2 ^ 128 - 1))
read_more text left behind rest space nanoseconds more a r trim = record {
  front = a.front ++ (r.here ++ space);
  items = a.items ++ (r.item ∷ []);
  is_front = record {
    whole = a.is_front.whole ∙ ap (λ t. a.front ++ t) (r.whole ∙ ap (λ t. r.here ++ t) trim.whole ∙ sym (append_assoc r.here space rest)) ∙ sym (append_assoc a.front (r.here ++ space) rest);
    spelled = spells_both a.items (r.item ∷ []) a.front (r.here ++ space) a.is_front.spelled (r.here, space, refl, r.is_item, trim.run.inside);
    fit = all_joined HasNumberThatFits a.items (r.item ∷ []) a.is_front.fit (r.fits, tt);
    uncut = uncut_more a.front r.here space rest (rw trim.whole at r.over) trim.run.inside;
  };
  no_space = trim.run.over;
  sum = omega (arith, a.sum, total_both a.items (r.item ∷ []), r.length_is);
  some = λ none both. omega (arith, ap length both, length-append a.items (r.item ∷ []));
}

-- ---- the answers

fault_after : (front left : List ℕ) (items : List Item) (fault : DurationFault) → left ≢ [] → IsFaultAt (offset front) left fault → IsFaultAfter front left items fault
fault_after front left items fault some told = search rules

-- what isn't an item is the fault of the text
pub fault_within : (text : List ℕ) {left : List ℕ} {nanoseconds : ℕ} (place : ℕ) (fault : DurationFault)
    (a : IsReadUpTo (chars text) left nanoseconds) → left ≢ [] → place ≡ offset a.front → IsFaultAt place left fault
    → IsDurationFault text fault
fault_within text {left} place fault a some at told =
    (a.front, left, a.items, longest_front (chars text) a.front left a.items a.is_front (fault_stops place left fault a.no_space told), fault_after a.front left a.items fault some (rw at at told))

pub empty_fault : (text : List ℕ) {space left : List ℕ} → IsTrimmed (chars text) space left → left ≡ [] → IsDurationFault text faults.Empty
empty_fault text {space} trimmed_off none =
    let trim : IsTrimmed (chars text) space [] = rw none at trimmed_off in
    (space, [], [], longest_front (chars text) space [] [] (record { whole = trim.whole; spelled = trim.run.inside; fit = tt; uncut = λ ends begins. begins }) nothing_stops, refl)

module _ (text : List ℕ) (nanoseconds : ℕ) (a : IsReadUpTo (chars text) [] nanoseconds) where
  pub sum_fault : ¬ FitsDuration nanoseconds → IsDurationFault text faults.SumTooLarge
  sum_fault large = (a.front, [], a.items, longest_front (chars text) a.front [] a.items a.is_front nothing_stops, (a.some refl, λ fits. large (omega (arith, a.sum, fits))))

  pub whole_duration : FitsDuration nanoseconds → IsDuration text nanoseconds
  whole_duration fits = search rules

-- where what is left begins
pub place_left : (text left : List ℕ) (nanoseconds : ℕ) (a : IsReadUpTo (chars text) (chars left) nanoseconds) → IsUtf8 text → IsUtf8 left → length text - length left ≡ offset a.front
place_left text left nanoseconds a text_utf8 left_utf8 =
    let sizes : length text ≡ offset a.front + length left = sym (offset_of_text text text_utf8) ∙ ap offset a.is_front.whole ∙ offset_after a.front (chars left) ∙ ap (λ n. offset a.front + n) (offset_of_text left left_utf8) in
    omega (arith, sizes)

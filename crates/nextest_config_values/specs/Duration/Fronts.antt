-- Each text has a longest front of items, and so a duration or a fault; and what TOML values mean
-- as durations.
use Rattle.std.proofs.Common.{◌≡◌, ◌≢◌, ℕ, ◌≤◌, ◌<◌, ◌+◌, Bool, List, [], ◌∷◌, ◌++◌, length, Option, Some, None, zero, suc, refl, sym, ap, ◌∙◌, subst, inl, inr, rules, arith}
use Rattle.std.specs.Prelude.{chars, ◌*◌, ◌^◌, ◌⊎◌}
use Rattle.std.proofs.lemmas.Bool.{cases_Bool, cases_lt}
use Rattle.std.proofs.lemmas.List.{append_assoc, append-nil, length-append}
use Rattle.std.specs.Char.{is_ascii_digit, is_whitespace}
use Rattle.std.specs.Duration.{FitsDuration}
use Rattle.std.specs.Str.Parse.{digits_value}
use Rattle.toml.specs.Data.{Data, as_str}
use Rattle.nextest_config_values.specs.Decisions.{below_decided, IsDecided, IsFoundOrNone}
use Rattle.nextest_config_values.specs.Duration.Grammar.{AreAll, AreFittingDigits, BeginsWith, EndsWith, HasNumberThatFits, IsDuration, IsDurationFault, IsFront, IsLongestFront, IsNext, IsNextFault, IsRun, IsUncut, Item, is_in_word, offset, total, unit_length}
use Rattle.nextest_config_values.specs.Duration.Steps.{IsFaultAt}
use Rattle.nextest_config_values.specs.Duration.Laws.{covers, never_duration_and_fault, one_duration, one_duration_fault, one_next, Stops}
use Rattle.nextest_config_values.specs.Once.{HasMeaningOrFault, HasOneMeaningOrFault}
use Rattle.nextest_config_values.specs.Read.Fault.{duration_expected, fault_here, no_duration}
use Rattle.nextest_config_values.specs.Read.FromToml.{Reading}
use Rattle.nextest_config_values.specs.Read.Readings.{kind, one_that, wrong_kind}
use Rattle.nextest_config_values.specs.Read.Text.{found_text}
use Rattle.nextest_config_values.specs.declared.duration.DurationFault.{DurationFault}
use Rattle.nextest_config_values.specs.declared.duration.DurationFault.TheVariants as faults

-- ---- what a text begins with

-- characters begin with a run of each kind, which may be empty
pub run_begins : (kind : ℕ → Bool) (cs : List ℕ)
    → (run behind : List ℕ) × (cs ≡ run ++ behind) × IsRun kind run behind
run_begins kind [] = ([], [], refl, record { inside = tt; over = λ begins. begins })
run_begins kind (c ∷ cs) = elim (cases_Bool (kind c)) [
  | inl holds ↦ let inner = run_begins kind cs in (
    c ∷ inner.0,
    inner.1,
    ap (λ rest. c ∷ rest) inner.2,
    record { inside = (holds, inner.3.inside); over = inner.3.over },
  )
  | inr other ↦ ([], c ∷ cs, refl, record { inside = tt; over = search rules })
]

-- digits, white space and a word, each possibly empty
next_begins : (cs : List ℕ)
    → (digits gap word behind : List ℕ) × IsNext cs digits gap word behind
next_begins cs =
    let first = run_begins is_ascii_digit cs in
    let second = run_begins is_whitespace first.1 in
    let third = run_begins is_in_word second.1 in
    let parts : first.1 ≡ second.0 ++ (third.0 ++ third.1) =
    second.2 ∙ ap (λ r. second.0 ++ r) third.2 in (
      first.0,
      second.0,
      third.0,
      third.1,
      record {
        whole = first.2 ∙ ap (λ r. first.0 ++ r) parts;
        of_digits = subst (IsRun is_ascii_digit first.0) parts first.3;
        of_gap = subst (IsRun is_whitespace second.0) third.2 second.3;
        of_word = third.3;
      },
    )

-- the digits of a number that fits, and a word of a unit
pub record IsUnit (digits word : List ℕ) (unit : ℕ) : Type 0 where
  pub fits : AreFittingDigits digits
  pub unit_is : unit_length word ≡ Some unit

-- no item comes next: what does has a fault, wherever it stands
abbrev HasFaultNext : List ℕ → List ℕ → List ℕ → Type 0
HasFaultNext digits gap word =
    (place : ℕ) → (fault : DurationFault) × IsNextFault place digits gap word fault

unit_or_fault : (digits gap word : List ℕ) (unit : Option ℕ) → unit_length word ≡ unit
    → AreFittingDigits digits
    → ((u : ℕ) × IsUnit digits word u) ⊎ HasFaultNext digits gap word
unit_or_fault digits gap word (Some unit) is fits =
    inl (unit, record { fits = fits; unit_is = is })
unit_or_fault digits gap [] None is fits =
    inr (λ place. (faults.UnitMissing (place + offset (digits ++ gap)), (fits, refl, refl)))
unit_or_fault digits gap (c ∷ word) None is fits =
    inr (λ place. (
      faults.UnitUnknown (place + offset (digits ++ gap)),
      (fits, (λ none. cc none), is, refl),
    ))

item_or_fault : (digits gap word : List ℕ)
    → ((u : ℕ) × IsUnit digits word u) ⊎ HasFaultNext digits gap word
item_or_fault [] gap word = inr (λ place. (faults.NumberExpected place, (refl, refl)))
item_or_fault (d ∷ digits) gap word = elim (cases_lt (digits_value 10 (d ∷ digits)) (2 ^ 64)) [
  | inl fits ↦ unit_or_fault (d ∷ digits) gap word (unit_length word) refl
      ((λ none. cc none), fits)
  | inr large ↦ inr (λ place. (faults.NumberTooLarge place, (large, refl)))
]

-- ---- the longest front

-- the way through a text: items, and after them nothing, or what has a fault
pub record IsPassed (text : List ℕ) : Type 0 where
  pub front : List ℕ
  pub behind : List ℕ
  pub items : List Item
  pub is_front : IsFront text front behind items
  pub no_space : ¬ BeginsWith is_whitespace behind
  pub ends : (place : ℕ) → (fault : DurationFault) × IsFaultAt place behind fault

pub white_no_end : (cs : List ℕ) → AreAll is_whitespace cs → ¬ EndsWith is_in_word cs
white_no_end [] h ends = ends
white_no_end (c ∷ []) h ends = search rules
white_no_end (c ∷ d ∷ cs) h ends = white_no_end (d ∷ cs) h.1 ends

ends_within : (here : List ℕ) (c : ℕ) (cs : List ℕ) → EndsWith is_in_word (here ++ (c ∷ cs))
    → EndsWith is_in_word (c ∷ cs)
ends_within [] c cs h = h
ends_within (x ∷ []) c cs h = h
ends_within (x ∷ y ∷ here) c cs h = ends_within (y ∷ here) c cs h

-- after an item no word goes on
uncut_item : (here front behind rest : List ℕ) → rest ≡ front ++ behind
    → ¬ BeginsWith is_in_word rest → IsUncut front behind → IsUncut (here ++ front) behind
uncut_item here [] behind rest whole over uncut =
    λ ends. subst (λ t. ¬ BeginsWith is_in_word t) whole over
uncut_item here (c ∷ cs) behind rest whole over uncut =
    λ ends. uncut (ends_within here c cs ends)

some_length : (cs : List ℕ) → cs ≢ [] → 0 < length cs
some_length [] some = absurd (some refl)
some_length (c ∷ cs) some = omega arith

shorter : (text space after digits gap word rest : List ℕ) → text ≡ space ++ after
    → IsNext after digits gap word rest → digits ≢ [] → length rest < length text
shorter text space after digits gap word rest whole next some = omega (
  arith,
  some_length digits some,
  ap length whole ∙ length-append space after,
  ap length next.whole ∙ length-append digits (gap ++ (word ++ rest)),
  length-append gap (word ++ rest),
  length-append word rest,
)

module _ (text space after digits gap word rest : List ℕ) (whole : text ≡ space ++ after)
    (run : IsRun is_whitespace space after) (next : IsNext after digits gap word rest) where
  -- no item after the white space
  stopped : HasFaultNext digits gap word → IsPassed text
  stopped fault = record {
    front = space;
    behind = after;
    items = [];
    is_front = record {
      whole = whole;
      spelled = run.inside;
      fit = tt;
      uncut = λ end. absurd (white_no_end space run.inside end);
    };
    no_space = run.over;
    ends = λ place. let told = fault place in
        (told.0, (digits, gap, word, rest, next, told.1));
  }

  -- an item, and the way through what comes after it
  one_more : (unit : ℕ) → IsUnit digits word unit → IsPassed rest → IsPassed text
  one_more unit is inner =
      let here = space ++ (digits ++ (gap ++ word)) in
      record {
        front = here ++ inner.front;
        behind = inner.behind;
        items = record { number = digits_value 10 digits; unit = unit } ∷ inner.items;
        is_front = record {
          whole = rw (whole, next.whole, inner.is_front.whole) (sym (simp append_assoc));
          spelled = (
            here,
            inner.front,
            refl,
            record {
              space = space;
              digits = digits;
              gap = gap;
              word = word;
              whole = refl;
              space_is_white = run.inside;
              some_digits = is.fits.0;
              digits_are = next.of_digits.inside;
              number_is = refl;
              gap_is_white = next.of_gap.inside;
              unit_is = is.unit_is;
            },
            inner.is_front.spelled,
          );
          fit = (is.fits.1, inner.is_front.fit);
          uncut = uncut_item here inner.front inner.behind rest inner.is_front.whole
              next.of_word.over inner.is_front.uncut;
        };
        no_space = inner.no_space;
        ends = inner.ends;
      }

  one_way : ((u : ℕ) × IsUnit digits word u) ⊎ HasFaultNext digits gap word
      → ((tail : List ℕ) → length tail < length text → IsPassed tail) → IsPassed text
  one_way (inl (unit, is)) onwards = one_more unit is
      (onwards rest (shorter text space after digits gap word rest whole next is.fits.0))
  one_way (inr fault) onwards = stopped fault

one_step : (text : List ℕ) → ((tail : List ℕ) → length tail < length text → IsPassed tail)
    → IsPassed text
one_step text onwards =
    let start = run_begins is_whitespace text in
    let parts = next_begins start.1 in
    one_way text start.0 start.1 parts.0 parts.1 parts.2 parts.3 start.2 start.3 parts.4
    (item_or_fault parts.0 parts.1 parts.2) onwards

passed_within : (bound : ℕ) (text : List ℕ) → length text ≤ bound → IsPassed text
passed_within zero text within = one_step text (λ tail less. absurd (omega arith))
passed_within (suc bound) text within =
    one_step text (λ tail less. passed_within bound tail (omega arith))

no_such_item : (place : ℕ) (digits gap word : List ℕ) (fault : DurationFault) (number unit : ℕ)
    → IsNextFault place digits gap word fault → digits ≢ [] → digits_value 10 digits ≡ number
    → unit_length word ≡ Some unit → number < 2 ^ 64 → ⊥
no_such_item place digits gap word fault number unit told some is_number is_unit fits = search rules

-- where this fault stands, no item begins
pub fault_stops : (place : ℕ) (text : List ℕ) (fault : DurationFault)
    → ¬ BeginsWith is_whitespace text → IsFaultAt place text fault → Stops HasNumberThatFits text
fault_stops place text fault no_space (digits, gap, word, behind, next, told) =
    record {
      no_space = no_space;
      no_item = λ item other_digits other_gap other_word rest other_next some is_number is_unit
          fits.
          let same = one_next text digits gap word behind other_digits other_gap other_word rest
          next
          other_next in
          no_such_item place digits gap word fault item.number item.unit told (rw same.0 some)
          (rw same.0 is_number) (rw same.2 is_unit) fits;
    }

pub longest_front : (text front behind : List ℕ) (items : List Item)
    → IsFront text front behind items → Stops HasNumberThatFits behind
    → IsLongestFront text front behind items
longest_front text front behind items a stops =
    record {
      is_front = a;
      longest = λ other rest others b.
          (covers HasNumberThatFits items others front behind other rest
          a.spelled b.spelled (sym a.whole ∙ b.whole) a.uncut b.uncut stops b.fit).longer;
    }

-- ---- a duration, or a fault

sum_or_fault : (text front : List ℕ) (item : Item) (items : List Item)
    → IsLongestFront (chars text) front [] (item ∷ items)
    → IsDecided (FitsDuration (total (item ∷ items)))
    → HasMeaningOrFault (IsDuration text) (IsDurationFault text)
sum_or_fault text front item items longest (inl fits) =
    inl (
      total (item ∷ items),
      record {
        items = item ∷ items;
        some = λ none. cc none;
        spelled = rw (longest.is_front.whole, append-nil front) longest.is_front.spelled;
        fit = longest.is_front.fit;
        sum = refl;
        sum_fits = fits;
      },
    )
sum_or_fault text front item items longest (inr large) =
    inr (faults.SumTooLarge, (front, [], item ∷ items, longest, ((λ none. cc none), large)))

front_or_fault : (text front behind : List ℕ) (items : List Item)
    → IsLongestFront (chars text) front behind items
    → ((place : ℕ) → (fault : DurationFault) × IsFaultAt place behind fault)
    → HasMeaningOrFault (IsDuration text) (IsDurationFault text)
front_or_fault text front [] [] longest ends = inr (faults.Empty, (front, [], [], longest, refl))
front_or_fault text front [] (item ∷ items) longest ends =
    sum_or_fault text front item items longest
    (below_decided (total (item ∷ items)) (2 ^ 64 * 1_000_000_000))
front_or_fault text front (c ∷ cs) items longest ends =
    let told = ends (offset front) in
    inr (told.0, (front, c ∷ cs, items, longest, told.1))

passed_or_fault : (text : List ℕ) → IsPassed (chars text)
    → HasMeaningOrFault (IsDuration text) (IsDurationFault text)
passed_or_fault text p =
    let told = p.ends 0 in
    front_or_fault text p.front p.behind p.items
    (longest_front (chars text) p.front p.behind p.items p.is_front
    (fault_stops 0 p.behind told.0 p.no_space told.1)) p.ends

pub duration_or_fault : (text : List ℕ) → HasMeaningOrFault (IsDuration text) (IsDurationFault text)
duration_or_fault text =
    passed_or_fault text (passed_within (length (chars text)) (chars text) (omega arith))

pub one_duration_or_fault : HasOneMeaningOrFault IsDuration IsDurationFault
one_duration_or_fault = record {
  meaning_or_fault = duration_or_fault;
  one_meaning = one_duration;
  one_fault = one_duration_fault;
  never_both = never_duration_and_fault;
}

-- ---- the reading

duration_found : (text : List ℕ) → HasMeaningOrFault (IsDuration text) (IsDurationFault text)
    → IsFoundOrNone (IsDuration text)
duration_found text (inl found) = inl found
duration_found text (inr (fault, wrong)) =
    inr (λ nanoseconds meant. never_duration_and_fault text nanoseconds fault meant wrong)

pub duration_or_none : (text : List ℕ) → IsFoundOrNone (IsDuration text)
duration_or_none text = duration_found text (duration_or_fault text)

-- a text that is a duration
abbrev pub duration_in : List ℕ → Reading Data ℕ
duration_in held = one_that (IsDuration held) (one_duration held) (duration_or_none held)
    (λ value. fault_here (no_duration (found_text value)))

-- the reading of a duration: a text that is one, as that many nanoseconds
abbrev pub duration_reading : Reading Data ℕ
duration_reading = kind as_str duration_in (wrong_kind duration_expected)

-- The laws of durations: a text is spelled in one way, and has one duration or one fault.
use Rattle.std.proofs.Common.{◌≡◌, ◌≢◌, ℕ, ◌+◌, ◌≤◌, Bool, true, false, List, [], ◌∷◌, ◌++◌, length, Some, refl, sym, ap, ◌∙◌, subst, inl, inr, rules, arith}
use Rattle.std.specs.Prelude.{IsTrue, chars, nat_eq, ◌&&◌}
use Rattle.std.proofs.lemmas.List.{append_assoc, append-nil, length-append}
use Rattle.std.proofs.lemmas.Bool.{cases_Bool}
use Rattle.std.specs.Char.{is_ascii_digit, is_whitespace}
use Rattle.std.specs.Cmp.Lexicographic.{pointwise, same_text}
use Rattle.std.specs.Duration.{FitsDuration}
use Rattle.std.specs.List.{AllByRecursion}
use Rattle.std.specs.Str.Parse.{digits_value}
use Rattle.nextest_config_values.specs.Duration.Grammar.{AreAll, BeginsWith, EndsWith, IsDuration, IsDurationFault, IsEndFault, IsFaultAfter, IsFront, IsItemText, IsLongestFront, IsNext, IsNextFault, IsRun, IsUncut, Item, Spells, is_in_word, length_in, offset, total, unit_length, units}
use Rattle.nextest_config_values.specs.declared.duration.DurationFault.{DurationFault}

-- ---- characters

-- a character is of one kind at most
never_white_and_digit : (c : ℕ) → IsTrue (is_whitespace c) → IsTrue (is_ascii_digit c) → ⊥
never_white_and_digit c white digit = search rules

never_word_and_digit : (c : ℕ) → IsTrue (is_in_word c) → IsTrue (is_ascii_digit c) → ⊥
never_word_and_digit c word digit = search rules

never_word_and_white : (c : ℕ) → IsTrue (is_in_word c) → IsTrue (is_whitespace c) → ⊥
never_word_and_white c word white = search rules

-- ---- runs

one_run : (kind : ℕ → Bool) (run behind other rest : List ℕ) → IsRun kind run behind
    → IsRun kind other rest → run ++ behind ≡ other ++ rest → (run ≡ other) × (behind ≡ rest)
one_run kind [] behind [] rest a b e = (refl, e)
one_run kind [] behind (c ∷ cs) rest a b e =
    absurd (a.over (subst (BeginsWith kind) (sym e) b.inside.0))
one_run kind (c ∷ cs) behind [] rest a b e = absurd (b.over (subst (BeginsWith kind) e a.inside.0))
one_run kind (c ∷ cs) behind (d ∷ ds) rest a b e =
    let more = one_run kind cs behind ds rest (record { inside = a.inside.1; over = a.over })
    (record { inside = b.inside.1; over = b.over }) (cc e) in
    (cc (e, more.0), more.1)

-- no front of one kind is longer than a run of it
run_longest : (kind : ℕ → Bool) (run behind other rest : List ℕ) → IsRun kind run behind
    → AreAll kind other → run ++ behind ≡ other ++ rest → length other ≤ length run
run_longest kind run behind [] rest a b e = omega arith
run_longest kind [] behind (c ∷ cs) rest a b e =
    absurd (a.over (subst (BeginsWith kind) (sym e) b.0))
run_longest kind (c ∷ cs) behind (d ∷ ds) rest a b e =
    let more = run_longest kind cs behind ds rest (record { inside = a.inside.1; over = a.over })
    b.1 (cc e) in
    omega arith

-- ---- words of units

-- one character of a word or more
abbrev is_word : List ℕ → Bool
is_word [] = false
is_word (c ∷ []) = is_in_word c
is_word (c ∷ d ∷ cs) = is_in_word c && is_word (d ∷ cs)

-- the table has the text in a row
found_passes : (t : List ℕ → Bool) (rows : List (List ℕ × ℕ)) (word : List ℕ) (unit : ℕ)
    → AllByRecursion (λ row. t row.0 ≡ true) rows
    → length_in rows word ≡ Some unit → t word ≡ true
found_passes t [] word unit h e = absurd (cc e)
found_passes t (row ∷ rows) word unit h e = elim (cases_Bool (pointwise nat_eq row.0 word)) [
  | inl same ↦ subst (λ w. t w ≡ true) (same_text row.0 word (sym same)) h.0
  | inr other ↦ found_passes t rows word unit h.1 (rw other at e)
]

word_of_unit : (word : List ℕ) (unit : ℕ) → unit_length word ≡ Some unit → is_word word ≡ true
word_of_unit word unit e = found_passes is_word units word unit (search rules) e

word_begins : (word behind : List ℕ) → is_word word ≡ true → BeginsWith is_in_word (word ++ behind)
word_begins [] behind h = absurd (cc h)
word_begins (c ∷ []) behind h = h
word_begins (c ∷ d ∷ cs) behind h = search rules

all_in_word : (word : List ℕ) → is_word word ≡ true → AreAll is_in_word word
all_in_word [] h = tt
all_in_word (c ∷ []) h = (h, tt)
all_in_word (c ∷ d ∷ cs) h = (word_begins (c ∷ d ∷ cs) [] h, all_in_word (d ∷ cs) (search rules))

word_ends : (front word : List ℕ) → is_word word ≡ true → EndsWith is_in_word (front ++ word)
word_ends [] [] h = absurd (cc h)
word_ends [] (c ∷ []) h = h
word_ends [] (c ∷ d ∷ cs) h = word_ends [] (d ∷ cs) (search rules)
word_ends (x ∷ []) [] h = absurd (cc h)
word_ends (x ∷ []) (c ∷ word) h = word_ends [] (c ∷ word) h
word_ends (x ∷ y ∷ front) word h = word_ends (y ∷ front) word h

-- ---- items

module _ (kind other : ℕ → Bool) (apart : (c : ℕ) → IsTrue (kind c) → IsTrue (other c) → ⊥) where
  -- what begins with the one kind begins with none of the other
  begins_apart : (text : List ℕ) → BeginsWith kind text → ¬ BeginsWith other text
  begins_apart text h also = search (rules, apart)

  run_apart : (run behind : List ℕ) → run ≢ [] → AreAll kind run
      → ¬ BeginsWith other (run ++ behind)
  run_apart [] behind some h = absurd (some refl)
  run_apart (c ∷ run) behind some h = apart c h.0

  after_apart : (run behind : List ℕ) → AreAll kind run → ¬ BeginsWith other behind
      → ¬ BeginsWith other (run ++ behind)
  after_apart [] behind h none = none
  after_apart (c ∷ run) behind h none = apart c h.0

-- after the white space of an item stand its digits, white space and word, each as long as can be
next_of_item : (text : List ℕ) (item : Item) (behind : List ℕ) (h : IsItemText text item)
    → ¬ BeginsWith is_in_word behind
    → IsNext (h.digits ++ (h.gap ++ (h.word ++ behind))) h.digits h.gap h.word behind
next_of_item text item behind h over =
    let word = word_of_unit h.word item.unit h.unit_is in
    let begins = word_begins h.word behind word in
    record {
      whole = refl;
      of_digits = record {
        inside = h.digits_are;
        over = after_apart is_whitespace is_ascii_digit never_white_and_digit h.gap
            (h.word ++ behind) h.gap_is_white
            (begins_apart is_in_word is_ascii_digit never_word_and_digit (h.word ++ behind) begins);
      };
      of_gap = record {
        inside = h.gap_is_white;
        over = begins_apart is_in_word is_whitespace never_word_and_white (h.word ++ behind)
            begins;
      };
      of_word = record { inside = all_in_word h.word word; over = over };
    }

-- the white space in front of an item is a run, as long as can be
space_of_item : (text : List ℕ) (item : Item) (behind : List ℕ) (h : IsItemText text item)
    → IsRun is_whitespace h.space (h.digits ++ (h.gap ++ (h.word ++ behind)))
space_of_item text item behind h =
    record {
      inside = h.space_is_white;
      over = run_apart is_ascii_digit is_whitespace
          (λ c digit white. never_white_and_digit c white digit) h.digits
          (h.gap ++ (h.word ++ behind))
          h.some_digits h.digits_are;
    }

-- the parts of what comes next are the same, however they are told
pub one_next : (text digits gap word behind : List ℕ)
    (other_digits other_gap other_word rest : List ℕ) → IsNext text digits gap word behind
    → IsNext text other_digits other_gap other_word rest
    → (digits ≡ other_digits) × (gap ≡ other_gap) × (word ≡ other_word) × (behind ≡ rest)
one_next text digits gap word behind other_digits other_gap other_word rest a b =
    let first = one_run is_ascii_digit digits (gap ++ (word ++ behind)) other_digits
    (other_gap ++ (other_word ++ rest)) a.of_digits b.of_digits (sym a.whole ∙ b.whole) in
    let second = one_run is_whitespace gap (word ++ behind) other_gap (other_word ++ rest) a.of_gap
    b.of_gap first.1 in
    let third = one_run is_in_word word behind other_word rest a.of_word b.of_word second.1 in
    (first.0, second.0, third.0, third.1)

item_whole : (text : List ℕ) (item : Item) (behind : List ℕ) (h : IsItemText text item)
    → text ++ behind ≡ h.space ++ (h.digits ++ (h.gap ++ (h.word ++ behind)))
item_whole text item behind h =
    rw (
      h.whole,
      append_assoc h.space (h.digits ++ (h.gap ++ h.word)) behind,
      append_assoc h.digits (h.gap ++ h.word) behind,
      append_assoc h.gap h.word behind,
    ) refl

ends_after : (here text : List ℕ) → EndsWith is_in_word text → EndsWith is_in_word (here ++ text)
ends_after [] text h = h
ends_after (x ∷ []) [] h = elim h [ ]
ends_after (x ∷ []) (c ∷ text) h = h
ends_after (x ∷ y ∷ here) text h = ends_after (y ∷ here) text h

uncut_after : (here text behind : List ℕ) → IsUncut (here ++ text) behind → IsUncut text behind
uncut_after here text behind uncut = λ ends. uncut (ends_after here text ends)

item_ends : (here : List ℕ) (item : Item) → IsItemText here item → EndsWith is_in_word here
item_ends here item h = subst (EndsWith is_in_word) (sym h.whole)
    (ends_after h.space (h.digits ++ (h.gap ++ h.word))
    (ends_after h.digits (h.gap ++ h.word)
    (word_ends h.gap h.word (word_of_unit h.word item.unit h.unit_is))))

-- no word goes on after an item, where the cut after all of them isn't inside a word
item_over : (here : List ℕ) (item : Item) (items : List Item) (text behind : List ℕ)
    → IsItemText here item → Spells items text → IsUncut (here ++ text) behind
    → ¬ BeginsWith is_in_word (text ++ behind)
item_over here item [] [] behind h spelled uncut =
    uncut (subst (EndsWith is_in_word) (sym (append-nil here)) (item_ends here item h))
item_over here item [] (c ∷ text) behind h spelled uncut =
    λ word. never_word_and_white c word spelled.0
item_over here item (next ∷ items) text behind h (there, rest, whole, k, spelled) uncut =
    let parts : text ++ behind ≡ k.space ++ (k.digits ++ (k.gap ++ (k.word ++ (rest ++ behind)))) =
    rw (whole, append_assoc there rest behind) (item_whole there next (rest ++ behind) k) in
    subst (λ t. ¬ BeginsWith is_in_word t) (sym parts)
    (after_apart is_whitespace is_in_word (λ c white word. never_word_and_white c word white)
    k.space (k.digits ++ (k.gap ++ (k.word ++ (rest ++ behind)))) k.space_is_white
    (run_apart is_ascii_digit is_in_word (λ c digit word. never_word_and_digit c word digit)
    k.digits (k.gap ++ (k.word ++ (rest ++ behind))) k.some_digits k.digits_are))

-- ---- spellings

-- neither white space nor an item of this sort comes next
pub record Stops (P : Item → Type 0) (text : List ℕ) : Type 0 where
  pub no_space : ¬ BeginsWith is_whitespace text
  pub no_item : (item : Item) (digits gap word behind : List ℕ) → IsNext text digits gap word behind
      → digits ≢ [] → digits_value 10 digits ≡ item.number → unit_length word ≡ Some item.unit
      → P item → ⊥

-- the items begin with the others, and their text is as long at least
pub record Covers (items others : List Item) (front other : List ℕ) : Type 0 where
  pub more : List Item
  pub whole : items ≡ others ++ more
  pub longer : length other ≤ length front

in_front : (whole front behind : List ℕ) → whole ≡ front ++ behind
    → length whole ≡ length front + length behind
in_front whole front behind e = ap length e ∙ length-append front behind

same_item : (item other : Item) → item.number ≡ other.number → item.unit ≡ other.unit → item ≡ other
same_item item other numbers units = ap (λ n. record { number = n; unit = item.unit }) numbers
    ∙ ap (λ u. record { number = other.number; unit = u }) units

same_first : (item other : Item) (items others more : List Item) → item ≡ other
    → items ≡ others ++ more → item ∷ items ≡ (other ∷ others) ++ more
same_first item other items others more first rest = rw (first, rest) refl

-- texts of the same parts are of the same item
same_parts : (here there : List ℕ) (item other : Item) (h : IsItemText here item)
    (k : IsItemText there other) → h.space ≡ k.space → h.digits ≡ k.digits → h.gap ≡ k.gap
    → h.word ≡ k.word → (item ≡ other) × (here ≡ there)
same_parts here there item other h k spaces digits gaps words = (
  same_item item other (sym h.number_is ∙ ap (digits_value 10) digits ∙ k.number_is)
      (cc (h.unit_is, k.unit_is, words)),
  rw (h.whole, k.whole, spaces, digits, gaps, words) refl,
)

pub covers : (P : Item → Type 0) (items others : List Item) (front behind other rest : List ℕ)
    → Spells items front → Spells others other → front ++ behind ≡ other ++ rest
    → IsUncut front behind → IsUncut other rest → Stops P behind → AllByRecursion P others
    → Covers items others front other
covers P [] [] front behind other rest spelled also e uncut uncut_too stops holds =
    record {
      more = [];
      whole = refl;
      longer = run_longest is_whitespace front behind other rest
          (record { inside = spelled; over = stops.no_space }) also e;
    }
covers P (item ∷ items) [] front behind other rest (here, text, whole, h, spelled) also e uncut
    uncut_too stops holds =
    let parts : front ++ behind ≡ h.space ++ (h.digits ++ (h.gap ++ (h.word ++ (text ++ behind)))) =
    rw (whole, append_assoc here text behind) (item_whole here item (text ++ behind) h) in
    let short = run_longest is_whitespace h.space
    (h.digits ++ (h.gap ++ (h.word ++ (text ++ behind)))) other rest
    (space_of_item here item (text ++ behind) h) also (sym parts ∙ e) in
    record {
      more = item ∷ items;
      whole = refl;
      longer = omega (
        arith,
        short,
        in_front here h.space (h.digits ++ (h.gap ++ h.word)) h.whole,
        in_front front here text whole,
      );
    }
covers P [] (item ∷ others) front behind other rest spelled (here, text, whole, h, also) e uncut
    uncut_too stops holds =
    let parts : other ++ rest ≡ h.space ++ (h.digits ++ (h.gap ++ (h.word ++ (text ++ rest)))) =
    rw (whole, append_assoc here text rest) (item_whole here item (text ++ rest) h) in
    let run = one_run is_whitespace front behind h.space
    (h.digits ++ (h.gap ++ (h.word ++ (text ++ rest))))
    (record { inside = spelled; over = stops.no_space })
    (space_of_item here item (text ++ rest) h) (e ∙ parts) in
    let next = next_of_item here item (text ++ rest) h
    (item_over here item others text rest h also (rw whole at uncut_too)) in
    absurd (stops.no_item item h.digits h.gap h.word (text ++ rest) (rw (← run.1) at next)
    h.some_digits h.number_is h.unit_is holds.0)
covers P (item ∷ items) (other_item ∷ others) front behind other rest (
  here,
  text,
  whole,
  h,
  spelled,
) (there, tail, other_whole, k, also) e uncut uncut_too stops holds =
    let parts : front ++ behind ≡ h.space ++ (h.digits ++ (h.gap ++ (h.word ++ (text ++ behind)))) =
    rw (whole, append_assoc here text behind) (item_whole here item (text ++ behind) h) in
    let other_parts : other ++ rest ≡ k.space ++ (k.digits ++ (k.gap ++ (k.word ++ (tail ++ rest))))
    = rw (other_whole, append_assoc there tail rest)
    (item_whole there other_item (tail ++ rest) k) in
    let run = one_run is_whitespace h.space (h.digits ++ (h.gap ++ (h.word ++ (text ++ behind))))
    k.space (k.digits ++ (k.gap ++ (k.word ++ (tail ++ rest))))
    (space_of_item here item (text ++ behind) h)
    (space_of_item there other_item (tail ++ rest) k) (sym parts ∙ e ∙ other_parts) in
    let next = next_of_item here item (text ++ behind) h
    (item_over here item items text behind h spelled (rw whole at uncut)) in
    let other_next = next_of_item there other_item (tail ++ rest) k
    (item_over there other_item others tail rest k also (rw other_whole at uncut_too)) in
    let same = one_next (h.digits ++ (h.gap ++ (h.word ++ (text ++ behind)))) h.digits h.gap h.word
    (text ++ behind) k.digits k.gap k.word (tail ++ rest) next (rw (← run.1) at other_next) in
    let inner = covers P items others text behind tail rest spelled also same.3
    (uncut_after here text behind (rw whole at uncut))
    (uncut_after there tail rest (rw other_whole at uncut_too)) stops holds.1 in
    let also_same = same_parts here there item other_item h k run.0 same.0 same.1 same.2 in
    record {
      more = inner.more;
      whole = same_first item other_item items others inner.more also_same.0 inner.whole;
      longer = omega (
        arith,
        inner.longer,
        ap length also_same.1,
        in_front front here text whole,
        in_front other there tail other_whole,
      );
    }

-- ---- one spelling

pub nothing_before : (front behind : List ℕ) → [] ≡ front ++ behind → front ≡ []
nothing_before [] behind e = refl
nothing_before (c ∷ front) behind e = absurd (cc e)

pub nothing_stops : {P : Item → Type 0} → Stops P []
nothing_stops = record {
  no_space = λ h. h;
  no_item = λ item digits gap word behind next some number unit any.
      some (nothing_before digits (gap ++ (word ++ behind)) next.whole);
}

everywhere : (items : List Item) → AllByRecursion (λ item. Unit {0}) items
everywhere [] = tt
everywhere (item ∷ items) = (tt, everywhere items)

fronts_of_each_other : (items others more rest : List Item) → items ≡ others ++ more
    → others ≡ items ++ rest → items ≡ others
fronts_of_each_other items others [] rest e f = e ∙ append-nil others
fronts_of_each_other items others (item ∷ more) rest e f =
    absurd (omega (
      arith,
      ap length e ∙ length-append others (item ∷ more),
      ap length f ∙ length-append items rest,
    ))

-- no text is spelled by two lists of items
pub one_spelling : (text : List ℕ) (items others : List Item) → Spells items text
    → Spells others text → items ≡ others
one_spelling text items others a b =
    let there = covers (λ item. Unit {0}) items others text [] text [] a b refl
    (λ ends begins. begins) (λ ends begins. begins) nothing_stops (everywhere others) in
    let back = covers (λ item. Unit {0}) others items text [] text [] b a refl
    (λ ends begins. begins) (λ ends begins. begins) nothing_stops (everywhere items) in
    fronts_of_each_other items others there.more back.more there.whole back.whole

pub one_duration : (text : List ℕ) (m n : ℕ) → IsDuration text m → IsDuration text n → m ≡ n
one_duration text m n a b =
    sym a.sum ∙ ap total (one_spelling (chars text) a.items b.items a.spelled b.spelled) ∙ b.sum

-- ---- one fault

same_front : (front behind other rest : List ℕ) → front ++ behind ≡ other ++ rest
    → length front ≡ length other → (front ≡ other) × (behind ≡ rest)
same_front [] behind [] rest e l = (refl, e)
same_front [] behind (d ∷ other) rest e l = absurd (omega (arith, l))
same_front (c ∷ front) behind [] rest e l = absurd (omega (arith, l))
same_front (c ∷ front) behind (d ∷ other) rest e l =
    let inner = same_front front behind other rest (cc e) (omega (arith, l)) in
    (cc (e, inner.0), inner.1)

one_longest : (text front behind other rest : List ℕ) (items others : List Item)
    → IsLongestFront text front behind items → IsLongestFront text other rest others
    → (front ≡ other) × (behind ≡ rest) × (items ≡ others)
one_longest text front behind other rest items others a b =
    let same = same_front front behind other rest (sym a.is_front.whole ∙ b.is_front.whole)
    (omega (arith, a.longest other rest others b.is_front, b.longest front behind items a.is_front))
    in (
      same.0,
      same.1,
      one_spelling other items others (rw same.0 at a.is_front.spelled)
          b.is_front.spelled,
    )

one_end_fault : (items : List Item) (f g : DurationFault) → IsEndFault items f → IsEndFault items g
    → f ≡ g
one_end_fault items f g a b = search rules

one_next_fault : (place : ℕ) (digits gap word : List ℕ) (f g : DurationFault)
    → IsNextFault place digits gap word f → IsNextFault place digits gap word g → f ≡ g
one_next_fault place digits gap word f g a b = search rules

one_fault_from : (front behind : List ℕ) (items : List Item) (f g : DurationFault)
    → IsFaultAfter front behind items f → IsFaultAfter front behind items g → f ≡ g
one_fault_from front [] items f g a b = one_end_fault items f g a b
one_fault_from front (c ∷ cs) items f g (digits, gap, word, behind, next, told)
    (other_digits, other_gap, other_word, rest, other_next, also) =
    let same = one_next (c ∷ cs) digits gap word behind other_digits other_gap other_word rest next
    other_next in
    one_next_fault (offset front) digits gap word f g told (rw (same.0, same.1, same.2) also)

pub one_duration_fault : (text : List ℕ) (f g : DurationFault) → IsDurationFault text f
    → IsDurationFault text g → f ≡ g
one_duration_fault text f g (front, behind, items, longest, told)
    (other, rest, others, also_longest, also) =
    let same = one_longest (chars text) front behind other rest items others longest also_longest in
    one_fault_from front behind items f g told (rw (same.0, same.1, same.2) also)

no_end_fault : (items : List Item) (fault : DurationFault) → items ≢ [] → FitsDuration (total items)
    → IsEndFault items fault → ⊥
no_end_fault items fault some fits told = search rules

no_fault_after : (front behind : List ℕ) (items : List Item) (fault : DurationFault)
    → length front + length behind ≤ length front → items ≢ [] → FitsDuration (total items)
    → IsFaultAfter front behind items fault → ⊥
no_fault_after front behind items fault whole some fits told = search (rules, no_end_fault)

whole_front : (text : List ℕ) (nanoseconds : ℕ) (d : IsDuration text nanoseconds)
    → IsFront (chars text) (chars text) [] d.items
whole_front text nanoseconds d =
    record {
      whole = sym (append-nil (chars text));
      spelled = d.spelled;
      fit = d.fit;
      uncut = λ ends begins. begins;
    }

pub never_duration_and_fault : (text : List ℕ) (nanoseconds : ℕ) (fault : DurationFault)
    → IsDuration text nanoseconds → IsDurationFault text fault → ⊥
never_duration_and_fault text nanoseconds fault d (front, behind, items, longest, told) =
    let long = longest.longest (chars text) [] d.items (whole_front text nanoseconds d) in
    let all = in_front (chars text) front behind longest.is_front.whole in
    let same = same_front front behind (chars text) []
    (sym longest.is_front.whole ∙ sym (append-nil (chars text))) (omega (arith, long, all)) in
    let items_are : items ≡ d.items =
    one_spelling (chars text) items d.items (rw same.0 at longest.is_front.spelled) d.spelled in
    no_fault_after front behind items fault (omega (arith, long, all))
    (λ e. d.some (sym items_are ∙ e))
    (subst FitsDuration (sym (ap total items_are ∙ d.sum)) d.sum_fits) told

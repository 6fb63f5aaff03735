-- Where bytes of a kind stand in a text, and the places of its bytes.
use Rattle.std.proofs.Common.{◌≡◌, ◌⊎◌, ℕ, zero, suc, ◌+◌, ◌-◌, ◌<◌, ◌≤◌, Bool, true, false, not, cond, List, [], ◌∷◌, ◌++◌, length, take, drop, get_or, nat_lt, count_by, refl, sym, ap, ◌∙◌, inl, inr, arith, append_assoc, length-append, take-append-drop, take_at, rules}
use Rattle.std.proofs.Math.Nat.{add-zero, zero-add, suc-add, add-suc, add_comm}
use Rattle.std.proofs.lemmas.Bool.{cases_Bool, cases_lt, true_from_ne_false}
use Rattle.std.proofs.lemmas.Bool.Decides.{eqb_tells, nat_tests}
use Rattle.std.proofs.lemmas.List.{get_or_append_left, take-take, length-take-le, take_more}
use Rattle.std.proofs.lemmas.List.Sums.{sum_by-append, sum_by-cons}
use Rattle.std.proofs.Math.Logic.{∥∥₁_elim}
use Rattle.std.specs.Coded.{×_prop, le_prop}
use Rattle.std.specs.List.{AllByRecursion}
use Rattle.std.specs.List.Sorted.{IsNonDecreasingBy, IsPartitionPoint}
use Rattle.toml_spans.specs.Characters.{line_feed}
use Rattle.toml_spans.specs.Line.{EndsLine, line_after}
use Rattle.toml_spans.specs.Offsets.{AreOffsets, AreOffsetsOf, begins_character, continues_character, ends_line, offsets_of}
use Rattle.toml_spans.specs.Place.{IsColumn, IsInLine}

-- ---- offsets

-- one more in front
count_yes : (p : ℕ → Bool) (x : ℕ) (xs : List ℕ) → p x ≡ true → count_by p (x ∷ xs) ≡ count_by p xs + 1
count_yes p x xs passes = rw (sum_by-cons (λ y. cond (p y) 1 0) x xs, passes) (omega arith)

-- one in front that doesn't count
count_no : (p : ℕ → Bool) (x : ℕ) (xs : List ℕ) → p x ≡ false → count_by p (x ∷ xs) ≡ count_by p xs
count_no p x xs fails = rw (sum_by-cons (λ y. cond (p y) 1 0) x xs, fails) (omega arith)

-- one on from the first, and the first one on
on_one : (first n : ℕ) → suc first + n ≡ first + suc n
on_one first n = suc-add first n ∙ sym (add-suc first n)

-- of two texts in a row
offsets_joined : (test : ℕ → Bool) (first : ℕ) (xs ys : List ℕ) → offsets_of test first (xs ++ ys) ≡ offsets_of test first xs ++ offsets_of test (first + length xs) ys
offsets_joined test first [] ys = rw (add-zero first) refl
offsets_joined test first (x ∷ xs) ys =
    let on : offsets_of test (suc first) (xs ++ ys) ≡ offsets_of test (suc first) xs ++ offsets_of test (first + suc (length xs)) ys = rw (on_one first (length xs)) at (offsets_joined test (suc first) xs ys) in
    elim (cases_Bool (test x)) [
      | inl passes ↦ rw passes (ap (λ (l : List ℕ). first ∷ l) on)
      | inr fails ↦ rw fails on
    ]

-- of a text with one byte more
offsets_more : (test : ℕ → Bool) (first : ℕ) (xs : List ℕ) (i d : ℕ) → i < length xs
    → offsets_of test first (take (i + 1) xs) ≡ offsets_of test first (take i xs) ++ cond (test (get_or xs i d)) ((first + i) ∷ []) []
offsets_more test first xs i d within =
    let size : length (take i xs) ≡ i = length-take-le i xs (omega (arith, within)) in
    rw (take_more xs i d within, offsets_joined test first (take i xs) (get_or xs i d ∷ []), size) refl

-- of a text up to a byte
abbrev pub AreUpTo : List ℕ → ℕ → List ℕ → List ℕ → Type 0
AreUpTo text i line_begins continuations = (line_begins ≡ 0 ∷ offsets_of ends_line 1 (take i text)) × (continuations ≡ offsets_of continues_character 0 (take i text))

-- up to the next one
pub up_to_more : (text line_begins continuations : List ℕ) (i : ℕ) → i < length text → AreUpTo text i line_begins continuations
    → AreUpTo text (i + 1) (line_begins ++ cond (ends_line (get_or text i 0)) ((i + 1) ∷ []) [])
    (continuations ++ cond (continues_character (get_or text i 0)) (i ∷ []) [])
up_to_more text line_begins continuations i within so_far = (
  rw (so_far.0, offsets_more ends_line 1 text i 0 within, add_comm 1 i) refl,
  rw (so_far.1, offsets_more continues_character 0 text i 0 within, zero-add i) refl,
)

-- they are as many as the bytes
length-offsets : (test : ℕ → Bool) (first : ℕ) (xs : List ℕ) → length (offsets_of test first xs) ≡ count_by test xs
length-offsets test first [] = refl
length-offsets test first (x ∷ xs) = elim (cases_Bool (test x)) [
  | inl passes ↦ rw (count_yes test x xs passes, passes) (omega (arith, length-offsets test (suc first) xs))
  | inr fails ↦ rw (count_no test x xs fails, fails) (length-offsets test (suc first) xs)
]

-- a number in front of numbers of which none is below it
least_in_front : (x : ℕ) (ys : List ℕ) → ((j d : ℕ) → j < length ys → x ≤ get_or ys j d) → (j d : ℕ) → j < length (x ∷ ys) → x ≤ get_or (x ∷ ys) j d
least_in_front x ys least j d within = search rules

-- so they ascend with it, where they do without it
ascend_in_front : (x : ℕ) (ys : List ℕ) → ((j d : ℕ) → j < length ys → x ≤ get_or ys j d) → IsNonDecreasingBy (λ (it : ℕ). it) ys → IsNonDecreasingBy (λ (it : ℕ). it) (x ∷ ys)
ascend_in_front x ys least ascend h4 j d before within = search rules

-- no offset is below that of the first byte
offsets_least : (test : ℕ → Bool) (first : ℕ) (xs : List ℕ) (j d : ℕ) → j < length (offsets_of test first xs) → first ≤ get_or (offsets_of test first xs) j d
offsets_least test first [] j d within = absurd (omega (arith, within))
offsets_least test first (x ∷ xs) j d within =
    let later : (j d : ℕ) → j < length (offsets_of test (suc first) xs) → first ≤ get_or (offsets_of test (suc first) xs) j d = λ j d within. omega (arith, offsets_least test (suc first) xs j d within) in
    elim (cases_Bool (test x)) [
      | inl passes ↦ rw passes (least_in_front first (offsets_of test (suc first) xs) later j d (rw passes at within))
      | inr fails ↦ rw fails (later j d (rw fails at within))
    ]

-- they ascend
pub offsets_ascend : (test : ℕ → Bool) (first : ℕ) (xs : List ℕ) → IsNonDecreasingBy (λ (it : ℕ). it) (offsets_of test first xs)
offsets_ascend test first [] = λ i j d before within. absurd (omega (arith, within))
offsets_ascend test first (x ∷ xs) =
    let later : (j d : ℕ) → j < length (offsets_of test (suc first) xs) → first ≤ get_or (offsets_of test (suc first) xs) j d = λ j d within. omega (arith, offsets_least test (suc first) xs j d within) in
    elim (cases_Bool (test x)) [
      | inl passes ↦ rw passes (ascend_in_front first (offsets_of test (suc first) xs) later (offsets_ascend test (suc first) xs))
      | inr fails ↦ rw fails (offsets_ascend test (suc first) xs)
    ]

-- ---- how many come before an offset

-- the point between what passes and what doesn't comes after as many as pass
pub point_counts : (p : ℕ → Bool) (xs : List ℕ) (k : ℕ) → k ≤ length xs → IsPartitionPoint (λ y. p y ≡ true) (λ y. p y ≡ false) xs k → k ≡ count_by p xs
point_counts p [] k within point = omega (arith, within)
point_counts p (x ∷ xs) zero within point =
    let fails : p x ≡ false = point.1 0 x (omega arith) (omega arith) in
    let rest = point_counts p xs 0 (omega arith) (λ k d behind before. absurd (omega (arith, before)), λ k d behind before. point.1 (suc k) d (omega arith) (omega (arith, before))) in
    omega (arith, rest, count_no p x xs fails)
point_counts p (x ∷ xs) (suc k) within point =
    let passes : p x ≡ true = point.0 0 x (omega arith) (omega arith) in
    let rest = point_counts p xs k (omega (arith, within)) (λ k d behind before. point.0 (suc k) d (omega arith) (omega (arith, before)), λ k d behind before. point.1 (suc k) d (omega (arith, behind)) (omega (arith, before))) in
    omega (arith, rest, count_yes p x xs passes)

-- no offset is before that of the first byte
none_before : (test : ℕ → Bool) (first n : ℕ) (xs : List ℕ) → n ≤ first → count_by (λ it. nat_lt it n) (offsets_of test first xs) ≡ 0
none_before test first n [] above = refl
none_before test first n (x ∷ xs) above =
    let later = none_before test (suc first) n xs (omega (arith, above)) in
    elim (cases_Bool (test x)) [
      | inl passes ↦ rw passes (count_no (λ it. nat_lt it n) first (offsets_of test (suc first) xs) (grind (arith, nat_tests)) ∙ later)
      | inr fails ↦ rw fails later
    ]

-- as many are before an offset as bytes before it pass
pub offsets_before : (test : ℕ → Bool) (first n : ℕ) (xs : List ℕ) → count_by (λ it. nat_lt it (first + n)) (offsets_of test first xs) ≡ count_by test (take n xs)
offsets_before test first zero xs = rw (add-zero first) (none_before test first first xs (omega arith))
offsets_before test first (suc n) [] = refl
offsets_before test first (suc n) (x ∷ xs) =
    let later : count_by (λ it. nat_lt it (first + suc n)) (offsets_of test (suc first) xs) ≡ count_by test (take n xs) = rw (on_one first n) at (offsets_before test (suc first) n xs) in
    elim (cases_Bool (test x)) [
      | inl passes ↦ rw (passes, count_yes (λ it. nat_lt it (first + suc n)) first (offsets_of test (suc first) xs) (grind (arith, nat_tests)), count_yes test x (take n xs) passes, later) refl
      | inr fails ↦ rw (fails, count_no test x (take n xs) fails) later
    ]

-- ---- lines and columns

-- a text is cut at its last byte that passes
record IsCutAtLast (test : ℕ → Bool) (first : ℕ) (xs : List ℕ) : Type 0 where
  pub front : List ℕ
  pub byte : ℕ
  pub last : List ℕ
  pub whole : xs ≡ front ++ (byte ∷ last)
  pub passes : test byte ≡ true
  pub none : count_by test last ≡ 0
  pub offset_is : (d : ℕ) → get_or (offsets_of test first xs) (count_by test xs - 1) d ≡ first + length front

-- after a byte that one follows that passes
offset_after : (test : ℕ → Bool) (first x : ℕ) (xs : List ℕ) (d offset : ℕ) → 0 < count_by test xs → get_or (offsets_of test (suc first) xs) (count_by test xs - 1) d ≡ offset → get_or (offsets_of test first (x ∷ xs)) (count_by test (x ∷ xs) - 1) d ≡ offset
offset_after test first x xs d offset later is = elim (cases_Bool (test x)) [
  | inl passes ↦
      let behind : count_by test (x ∷ xs) - 1 ≡ suc (count_by test xs - 1) = omega (arith, count_yes test x xs passes, later) in
      rw (behind, passes) is
  | inr fails ↦ rw (count_no test x xs fails, fails) is
]

-- and where one passes, it is
cut_at_last : (test : ℕ → Bool) (first : ℕ) (xs : List ℕ) → 0 < count_by test xs → IsCutAtLast test first xs
cut_at_last test first [] some = absurd (omega (arith, some))
cut_at_last test first (x ∷ xs) some = elim (cases_lt 0 (count_by test xs)) [
  | inl later ↦
      let cut = cut_at_last test (suc first) xs later in
      record {
        front = x ∷ cut.front;
        byte = cut.byte;
        last = cut.last;
        whole = ap (λ (l : List ℕ). x ∷ l) cut.whole;
        passes = cut.passes;
        none = cut.none;
        offset_is = λ d. offset_after test first x xs d (first + suc (length cut.front)) later (cut.offset_is d ∙ on_one first (length cut.front));
      }
  | inr none ↦
      let passes : test x ≡ true = true_from_ne_false (test x) (λ fails. absurd (omega (arith, some, none, count_no test x xs fails))) in
      record {
        front = [];
        byte = x;
        last = xs;
        whole = refl;
        passes = passes;
        none = omega (arith, none);
        offset_is = λ d.
            let alone : count_by test (x ∷ xs) - 1 ≡ 0 = omega (arith, count_yes test x xs passes, none) in
            rw (alone, passes, add-zero first) refl;
      }
]

-- no byte ends a line
in_one_line : (xs : List ℕ) → count_by ends_line xs ≡ 0 → AllByRecursion IsInLine xs
in_one_line [] none = tt
in_one_line (x ∷ xs) none = elim (eqb_tells x line_feed) [
  | inl told ↦ absurd (omega (arith, none, count_yes ends_line x xs told.0))
  | inr told ↦ (told.1, in_one_line xs (sym (count_no ends_line x xs told.0) ∙ none))
]

-- the last line of a front, and where it begins
record IsLastLine (front : List ℕ) (begin : ℕ) : Type 0 where
  pub before : List ℕ
  pub last : List ℕ
  pub whole : front ≡ before ++ last
  pub begins : EndsLine before ⊎ (before ≡ [])
  pub one_line : AllByRecursion IsInLine last
  pub size : length before ≡ begin

-- it begins where the line begins that so many line feeds come before
last_line : (text : List ℕ) (n d : ℕ) → n ≤ length text → IsLastLine (take n text) (get_or (0 ∷ offsets_of ends_line 1 text) (count_by ends_line (take n text)) d)
last_line text n d within = elim (cases_lt 0 (count_by ends_line (take n text))) [
  | inl some ↦
      let cut = cut_at_last ends_line 1 (take n text) some in
      let feed : cut.byte ≡ line_feed = grind (arith, nat_tests, cut.passes) in
      let index : count_by ends_line (take n text) ≡ suc (count_by ends_line (take n text) - 1) = omega (arith, some) in
      let joined : offsets_of ends_line 1 text ≡ offsets_of ends_line 1 (take n text) ++ offsets_of ends_line (1 + length (take n text)) (drop n text) = rw (take-append-drop n text) at (offsets_joined ends_line 1 (take n text) (drop n text)) in
      let there : get_or (offsets_of ends_line 1 text) (count_by ends_line (take n text) - 1) d ≡ 1 + length cut.front =
      rw joined (get_or_append_left (offsets_of ends_line 1 (take n text)) _ d _ (omega (arith, some, length-offsets ends_line 1 (take n text))) ∙ cut.offset_is d) in
      rw (index, there) (record {
        before = cut.front ++ (line_feed ∷ []);
        last = cut.last;
        whole = rw feed at cut.whole ∙ sym (append_assoc cut.front (line_feed ∷ []) cut.last);
        begins = inl (cut.front, refl);
        one_line = in_one_line cut.last cut.none;
        size = omega (arith, length-append cut.front (line_feed ∷ []));
      })
  | inr none ↦
      let zero_lines : count_by ends_line (take n text) ≡ 0 = omega (arith, none) in
      rw zero_lines (record {
        before = [];
        last = take n text;
        whole = refl;
        begins = inr refl;
        one_line = in_one_line (take n text) zero_lines;
        size = refl;
      })
]

-- each byte begins a character or continues one
each_counts : (xs : List ℕ) → count_by continues_character xs + count_by begins_character xs ≡ length xs
each_counts [] = refl
each_counts (x ∷ xs) = elim (cases_Bool (begins_character x)) [
  | inl begins ↦ omega (arith, each_counts xs, count_yes begins_character x xs begins, count_no continues_character x xs (ap not begins))
  | inr continues ↦ omega (arith, each_counts xs, count_no begins_character x xs continues, count_yes continues_character x xs (ap not continues))
]

-- what is read of the offsets of a text tells a place of it
pub record TellsPlace (front : List ℕ) (n lines begin all before : ℕ) : Type 0 where
  pub some : 0 < lines
  pub begins : begin ≤ n
  pub fewer : before ≤ all
  pub in_line : all - before ≤ n - begin
  pub line_is : lines ≡ line_after front
  pub column_is : IsColumn front (n - begin - (all - before) + 1)

-- they do so where the last line begins there
place_of_line : (front : List ℕ) (n lines begin all before : ℕ) → IsLastLine front begin → length front ≡ n → lines ≡ line_after front → all ≡ count_by continues_character front → before ≡ count_by continues_character (take begin front) → TellsPlace front n lines begin all before
place_of_line front n lines begin all before line size lines_are all_are before_are =
    let before_line : take begin front ≡ line.before = rw line.whole (take_at line.before line.last begin line.size) in
    let counts : count_by continues_character front ≡ count_by continues_character line.before + count_by continues_character line.last = ap (count_by continues_character) line.whole ∙ sum_by-append (λ y. cond (continues_character y) 1 0) line.before line.last in
    let lengths : length front ≡ length line.before + length line.last = ap length line.whole ∙ length-append line.before line.last in
    let before_is : before ≡ count_by continues_character line.before = before_are ∙ ap (count_by continues_character) before_line in
    let last_is = each_counts line.last in
    record {
      some = omega (arith, lines_are);
      begins = omega (arith, lengths, line.size, size);
      fewer = omega (arith, all_are, counts, before_is);
      in_line = omega (arith, all_are, counts, before_is, lengths, line.size, size, last_is);
      line_is = lines_are;
      column_is = record {
        before = line.before;
        last = line.last;
        whole = line.whole;
        begins = line.begins;
        one_line = line.one_line;
        column_is = omega (arith, all_are, counts, before_is, lengths, line.size, size, last_is);
      };
    }

-- and for each text that the offsets are of
pub place_read : (text line_begins continuations : List ℕ) (size n lines begin all before : ℕ) → AreOffsetsOf text size line_begins continuations → n ≤ size
    → lines ≡ count_by (λ it. nat_lt it (n + 1)) line_begins → begin ≡ get_or line_begins (lines - 1) begin
    → all ≡ count_by (λ it. nat_lt it n) continuations → before ≡ count_by (λ it. nat_lt it begin) continuations
    → TellsPlace (take n text) n lines begin all before
place_read text line_begins continuations size n lines begin all before of within lines_are begin_is all_are before_are =
    let short : n ≤ length text = omega (arith, within, of.size_is) in
    let front_size : length (take n text) ≡ n = length-take-le n text short in
    let counted : count_by (λ it. nat_lt it (n + 1)) (offsets_of ends_line 1 text) ≡ count_by ends_line (take n text) = rw (add_comm 1 n) at (offsets_before ends_line 1 n text) in
    let lines_told : lines ≡ line_after (take n text) = lines_are ∙ rw (of.line_begins_are, count_yes (λ it. nat_lt it (n + 1)) 0 (offsets_of ends_line 1 text) (grind (arith, nat_tests)), counted) (omega arith) in
    let index : lines - 1 ≡ count_by ends_line (take n text) = omega (arith, lines_told) in
    let begin_told : get_or (0 ∷ offsets_of ends_line 1 text) (count_by ends_line (take n text)) begin ≡ begin = sym (rw (of.line_begins_are, index) at begin_is) in
    let line : IsLastLine (take n text) begin = rw begin_told at (last_line text n begin short) in
    let begins : begin ≤ n = omega (arith, line.size, front_size, ap length line.whole, length-append line.before line.last) in
    place_of_line (take n text) n lines begin all before line front_size lines_told
    (all_are ∙ rw of.continuations_are (rw (zero-add n) at (offsets_before continues_character 0 n text)))
    (before_are ∙ rw of.continuations_are (rw (zero-add begin) at (offsets_before continues_character 0 begin text)) ∙ ap (count_by continues_character) (sym (take-take begin n text begins)))

-- so no subtraction goes below 0, whatever the text is
pub none_below : (line_begins continuations : List ℕ) (size n lines begin all before : ℕ) → ∥ AreOffsets size line_begins continuations ∥₁ → n ≤ size
    → lines ≡ count_by (λ it. nat_lt it (n + 1)) line_begins → begin ≡ get_or line_begins (lines - 1) begin
    → all ≡ count_by (λ it. nat_lt it n) continuations → before ≡ count_by (λ it. nat_lt it begin) continuations
    → (begin ≤ n) × ((before ≤ all) × (all - before ≤ n - begin))
none_below line_begins continuations size n lines begin all before some within lines_are begin_is all_are before_are =
    ∥∥₁_elim some (×_prop le_prop (×_prop le_prop le_prop)) (λ of.
    let told = place_read of.0 line_begins continuations size n lines begin all before of.1 within lines_are begin_is all_are before_are in
    (told.begins, (told.fewer, told.in_line)))

-- where lines begin, in ascending order
pub line_begins_ascend : (line_begins continuations : List ℕ) (size : ℕ) → ∥ AreOffsets size line_begins continuations ∥₁ → IsNonDecreasingBy (λ (it : ℕ). it) line_begins
line_begins_ascend line_begins continuations size some = λ i j d before within. ∥∥₁_elim some le_prop (λ of.
    let ascend : IsNonDecreasingBy (λ (it : ℕ). it) line_begins = rw of.1.line_begins_are (ascend_in_front 0 (offsets_of ends_line 1 of.0) (λ j d within. omega arith) (offsets_ascend ends_line 1 of.0)) in
    ascend i j d before within)

-- as do the bytes that continue a character
pub continuations_ascend : (line_begins continuations : List ℕ) (size : ℕ) → ∥ AreOffsets size line_begins continuations ∥₁ → IsNonDecreasingBy (λ (it : ℕ). it) continuations
continuations_ascend line_begins continuations size some = λ i j d before within. ∥∥₁_elim some le_prop (λ of.
    let ascend : IsNonDecreasingBy (λ (it : ℕ). it) continuations = rw of.1.continuations_are (offsets_ascend continues_character 0 of.0) in
    ascend i j d before within)

-- a line begins at any offset or before it
pub some_line : (line_begins continuations : List ℕ) (size n : ℕ) → ∥ AreOffsets size line_begins continuations ∥₁ → 0 < count_by (λ it. nat_lt it (n + 1)) line_begins
some_line line_begins continuations size n some = ∥∥₁_elim some le_prop (λ of.
    rw of.1.line_begins_are (omega (arith, count_yes (λ it. nat_lt it (n + 1)) 0 (offsets_of ends_line 1 of.0) (grind (arith, nat_tests)))))

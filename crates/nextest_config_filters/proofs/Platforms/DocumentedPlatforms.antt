-- Nothing is reported of a documented platform.
use Rattle.std.proofs.Common.{◌≡◌, ℕ, Bool, true, false, List, [], ◌∷◌, ◌++◌, length, nat_eq, Option, Some, None, refl, sym, ap, ◌∙◌, subst, inl, inr, append_assoc, arith, eqb-true, length-append}
use Rattle.std.proofs.lemmas.Bool.{cases_Bool}
use Rattle.std.specs.Prelude.{◌==◌, ◌&&◌, ◌⊎◌, codes}
use Rattle.std.specs.Char.{is_whitespace}
use Rattle.std.specs.Cmp.Lexicographic.{pointwise}
use Rattle.std.specs.List.{AllByRecursion, list_any}
use Rattle.std.specs.Str.{chars, drop_trailing_whitespace as without_spaces_behind, skip_leading_whitespace as behind_spaces}
use Rattle.toml_spans.specs.Characters.{double_quote}
use Rattle.nextest_config_filters.specs.Fault.{Fault}
use Rattle.nextest_config_filters.specs.Front.{behind, closing, comma, equals_sign, in_key, opening, run}
use Rattle.nextest_config_filters.specs.Platform.Fault.{IsPlatformFault}
use Rattle.nextest_config_filters.specs.Platform.Grammar.{a_cfg, a_group, a_key, a_negation, a_target, an_option, another, AreSpaces, Is, IsDocumentedPlatform, IsIdentifier, IsOption, IsPlatform, IsTargetName, last_member, members, no_member, Part, predicate, with_value}
use Rattle.nextest_config_filters.specs.Platform.Key.{groups}
use Rattle.nextest_config_filters.specs.Platform.Member.{behind_value, level_at, read_group, read_key, reading_at, takes_closing, takes_member}
use Rattle.nextest_config_filters.specs.Platform.Outcome.{in_no_name, is_closed, is_mark, IsCfgOutcome, IsOutcome, IsOutcomeBy, name_flaw, outcome_by, outside}
use Rattle.nextest_config_filters.specs.Platform.Reading.{closes, ends, FaultAt, member, opens, separates}
use Rattle.nextest_config_filters.specs.Platform.Walk.{Finds, first_level, is_miscounted, next, next_of, Outcome, outcome_at, outcome_of, passes, start, with_group, with_member, wrong}
use Rattle.nextest_config_filters.specs.Text.{is_one_of}
use Rattle.nextest_config_filters.specs.declared.platform.reading.After.{After}
use Rattle.nextest_config_filters.specs.declared.platform.reading.After.TheVariants as after
use Rattle.nextest_config_filters.specs.declared.platform.reading.Level.{Level}
use Rattle.nextest_config_filters.proofs.Characters.{behind_front, behind_whole}
use Rattle.nextest_config_filters.proofs.Platforms.Documented.{alike, at, follower_is, follower_reading, follows, group_reading, key_reading, no_space_there, spaces_behind, Tail, tail_begins, tail_follows, value_run, word_run}
use Rattle.nextest_config_filters.proofs.Steps.{onwards, stuck}
use Rattle.nextest_config_filters.proofs.Tests.{and_false}

-- ---- options

no_equals : (c : ℕ) → (c ≡ comma) ⊎ (c ≡ closing) → (c == equals_sign) ≡ false
no_equals c (inl is) = rw is refl
no_equals c (inr is) = rw is refl

option_reading : (cs : List ℕ) → IsOption cs → (before : After) → takes_member before ≡ true → (tail : List ℕ) → (end : Tail tail)
    → reading_at before (cs ++ tail) ≡ member (end.c ∷ end.rest)
option_reading cs (a_key key is no_value) before takes tail end =
    let text = is.identifier in
    let behind_key = tail_follows tail end in
    key_reading key tail text behind_key before takes is.no_group
    ∙ rw (tail_begins tail end, no_equals end.c end.is, follower_is end.c end.is, word_run key tail text behind_key, no_value, is.known) refl
option_reading cs (with_value key first last value is no_family first_space last_space value_is) before takes tail end =
    let quoted = value ++ (double_quote ∷ tail) in
    let behind_equals = last ++ (double_quote ∷ quoted) in
    let rest = first ++ (equals_sign ∷ behind_equals) in
    let whole : cs ++ tail ≡ key ++ rest = simp append_assoc in
    let text = is.identifier in
    let behind_key = follows first equals_sign behind_equals first_space refl refl in
    let ran = value_run value tail value_is.no_quote in
    let ends_value : behind_value quoted ≡ Some tail = rw ran.1 refl in
    ap (reading_at before) whole
    ∙ key_reading key rest text behind_key before takes is.no_group
    ∙ ap (read_key (key ++ rest)) (spaces_behind first (equals_sign ∷ behind_equals) first_space)
    ∙ rw (spaces_behind last (double_quote ∷ quoted) last_space, ends_value, ran.0)
    (follower_reading key value (key ++ rest) tail is no_family value_is (word_run key rest text behind_key) end)

-- ---- groups

and_so : (b : Bool) → b ≡ false → (c : Bool) → (b && c) ≡ false
and_so b is c = rw is refl

-- the names of groups
all_text : IsIdentifier (codes "all")
all_text = record { first = 97; others = codes "ll"; whole = refl; begins = refl; goes_on = (refl, (refl, tt)) }

any_text : IsIdentifier (codes "any")
any_text = record { first = 97; others = codes "ny"; whole = refl; begins = refl; goes_on = (refl, (refl, tt)) }

not_text : IsIdentifier (codes "not")
not_text = record { first = 110; others = codes "ot"; whole = refl; begins = refl; goes_on = (refl, (refl, tt)) }

group_text : (name : List ℕ) → (name ≡ codes "all") ⊎ (name ≡ codes "any") → IsIdentifier name
group_text name (inl is) = rw is all_text
group_text name (inr is) = rw is any_text

group_word : (name : List ℕ) → (name ≡ codes "all") ⊎ (name ≡ codes "any") → is_one_of name groups ≡ true
group_word name (inl is) = rw is refl
group_word name (inr is) = rw is refl

group_other : (name : List ℕ) → (name ≡ codes "all") ⊎ (name ≡ codes "any") → pointwise nat_eq name (codes "not") ≡ false
group_other name (inl is) = rw is refl
group_other name (inr is) = rw is refl

module _ (found : Outcome) where
  -- a level, with one member more: a key or a group
  abbrev IsCounted : Level → List Level → Level → Type 0
  IsCounted level outer counted = (counted ≡ with_member level) ⊎ (counted ≡ with_group level outer)

  option_passes : (cs : List ℕ) → IsOption cs → (before : After) → takes_member before ≡ true → (level : Level) (outer : List Level) (tail : List ℕ)
      → Tail tail → Finds (at before level outer (cs ++ tail)) found
      → Finds (at after.Member (with_member level) outer tail) found
  option_passes cs is before takes level outer tail end walked =
      let left = end.c ∷ end.rest in
      alike found after.Member (with_member level) outer left tail (no_space_there end.c end.rest end.is ∙ sym (tail_begins tail end))
      (onwards next outcome_at found (at before level outer (cs ++ tail)) (at after.Member (with_member level) outer left)
      (ap (λ r. next_of r level outer) (option_reading cs is before takes tail end)) walked)

  opening_passes : (name spaces inside : List ℕ) → IsIdentifier name → is_one_of name groups ≡ true → AreSpaces spaces
      → (before : After) → takes_member before ≡ true → (level : Level) (outer : List Level)
      → Finds (at before level outer (name ++ (spaces ++ (opening ∷ inside)))) found
      → Finds (at after.Opening (level_at (name ++ (spaces ++ (opening ∷ inside))) (opening ∷ inside)) (with_group level outer ∷ outer) inside) found
  opening_passes name spaces inside text group are before takes level outer walked =
      let rest = spaces ++ (opening ∷ inside) in
      let cs = name ++ rest in
      let reading : reading_at before cs ≡ opens (level_at cs (opening ∷ inside)) inside =
      group_reading name rest text (follows spaces opening inside are refl refl) before takes group
      ∙ ap (read_group cs) (spaces_behind spaces (opening ∷ inside) are) in
      onwards next outcome_at found (at before level outer cs)
      (at after.Opening (level_at cs (opening ∷ inside)) (with_group level outer ∷ outer) inside)
      (ap (λ r. next_of r level outer) reading) walked

  close_reading : (before : After) (tail : List ℕ) → takes_closing before ≡ true → Tail tail
      → reading_at before (closing ∷ tail) ≡ closes (closing ∷ tail)
  unfolding reading_at
  close_reading before tail takes end = rw (tail_begins tail end, takes) refl

  closing_passes : (before : After) (level around : Level) (outer : List Level) (spaces tail : List ℕ) → takes_closing before ≡ true
      → is_miscounted level ≡ false → AreSpaces spaces → Tail tail
      → Finds (at before level (around ∷ outer) (spaces ++ (closing ∷ tail))) found
      → Finds (at after.Member around outer tail) found
  closing_passes before level around outer spaces tail takes counted are end walked =
      let here = alike found before level (around ∷ outer) (spaces ++ (closing ∷ tail)) (closing ∷ tail)
      (spaces_behind spaces (closing ∷ tail) are) walked in
      onwards next outcome_at found (at before level (around ∷ outer) (closing ∷ tail)) (at after.Member around outer tail)
      (ap (λ r. next_of r level (around ∷ outer)) (close_reading before tail takes end) ∙ rw counted refl) here

  comma_reading : (rest : List ℕ) → reading_at after.Member (comma ∷ rest) ≡ separates rest
  unfolding reading_at
  comma_reading rest = refl

  comma_passes : (level : Level) (outer : List Level) (spaces rest : List ℕ) → AreSpaces spaces
      → Finds (at after.Member level outer (spaces ++ (comma ∷ rest))) found
      → Finds (at after.Comma level outer rest) found
  comma_passes level outer spaces rest are walked =
      onwards next outcome_at found (at after.Member level outer (comma ∷ rest)) (at after.Comma level outer rest)
      (ap (λ r. next_of r level outer) (comma_reading rest))
      (alike found after.Member level outer (spaces ++ (comma ∷ rest)) (comma ∷ rest) (spaces_behind spaces (comma ∷ rest) are) walked)

  -- ---- predicates and members

  abbrev Passes : Part → List ℕ → Type 0
  Passes predicate cs = (before : After) → takes_member before ≡ true → (level : Level) (outer : List Level) (tail : List ℕ) → Tail tail
      → Finds (at before level outer (cs ++ tail)) found
      → (counted : Level) × IsCounted level outer counted × Finds (at after.Member counted outer tail) found
  Passes members cs = (before : After) → takes_member before ≡ true → takes_closing before ≡ true → (level around : Level) (outer : List Level) (tail : List ℕ)
      → level.is_not ≡ false → Tail tail
      → Finds (at before level (around ∷ outer) (cs ++ (closing ∷ tail))) found
      → Finds (at after.Member around outer tail) found

  counted_is : (level around : Level) (outer : List Level) (counted : Level) → IsCounted level (around ∷ outer) counted
      → counted ≡ with_member level
  counted_is level around outer counted (inl is) = is
  counted_is level around outer counted (inr is) = is

  still_no_not : (level around : Level) (outer : List Level) (counted : Level) → IsCounted level (around ∷ outer) counted
      → level.is_not ≡ false → counted.is_not ≡ false
  still_no_not level around outer counted is no_not =
      ap (λ (l : Level). l.is_not) (counted_is level around outer counted is) ∙ no_not

  -- what closes behind spaces, and what a comma ends
  closing_tail : (spaces tail : List ℕ) → AreSpaces spaces → Tail (spaces ++ (closing ∷ tail))
  closing_tail spaces tail are = record { spaces = spaces; c = closing; rest = tail; whole = refl; are = are; is = inr refl }

  comma_tail : (spaces rest : List ℕ) → AreSpaces spaces → Tail (spaces ++ (comma ∷ rest))
  comma_tail spaces rest are = record { spaces = spaces; c = comma; rest = rest; whole = refl; are = are; is = inl refl }

  group_passes : (name spaces inside : List ℕ) → (name ≡ codes "all") ⊎ (name ≡ codes "any") → AreSpaces spaces
      → Passes members inside → Passes predicate (name ++ (spaces ++ (opening ∷ (inside ++ (closing ∷ [])))))
  group_passes name spaces inside either are inner before takes level outer tail end walked =
      let text = group_text name either in
      let opened = inside ++ (closing ∷ tail) in
      let rest = spaces ++ (opening ∷ opened) in
      let whole : (name ++ (spaces ++ (opening ∷ (inside ++ (closing ∷ []))))) ++ tail ≡ name ++ rest = simp append_assoc in
      let here = subst (λ r. Finds (at before level outer r) found) whole walked in
      let ran = word_run name rest text (follows spaces opening opened are refl refl) in
      let no_not : pointwise nat_eq (run in_key (name ++ rest)) (codes "not") ≡ false = rw ran (group_other name either) in (
        with_group level outer,
        inr refl,
        inner after.Opening refl refl (level_at (name ++ rest) (opening ∷ opened)) (with_group level outer) outer tail no_not end
            (opening_passes name spaces opened text (group_word name either) are before takes level outer here),
      )

  negation_passes : (spaces first text last : List ℕ) → AreSpaces spaces → AreSpaces first → Passes predicate text → AreSpaces last
      → Passes predicate (codes "not" ++ (spaces ++ (opening ∷ (first ++ (text ++ (last ++ (closing ∷ [])))))))
  negation_passes spaces first text last are first_space inner last_space before takes level outer tail end walked =
      let closed = last ++ (closing ∷ tail) in
      let opened = first ++ (text ++ closed) in
      let rest = spaces ++ (opening ∷ opened) in
      let around = with_group level outer in
      let lv = level_at (codes "not" ++ rest) (opening ∷ opened) in
      let whole : (codes "not" ++ (spaces ++ (opening ∷ (first ++ (text ++ (last ++ (closing ∷ []))))))) ++ tail ≡ codes "not" ++ rest =
      simp append_assoc in
      let here = subst (λ r. Finds (at before level outer r) found) whole walked in
      let inside = opening_passes (codes "not") spaces opened not_text refl are before takes level outer here in
      let at_text = alike found after.Opening lv (around ∷ outer) opened (text ++ closed) (spaces_behind first (text ++ closed) first_space) inside in
      let behind_text = inner after.Opening refl lv (around ∷ outer) closed (closing_tail last tail last_space) at_text in
      let counted = behind_text.0 in
      let one = counted_is lv around outer counted behind_text.1 in
      let right : is_miscounted counted ≡ false = rw one (and_false (pointwise nat_eq (run in_key (codes "not" ++ rest)) (codes "not"))) in
      (around, inr refl, closing_passes after.Member counted around outer last tail refl right last_space end behind_text.2)

  last_passes : (first text last : List ℕ) → AreSpaces first → Passes predicate text → AreSpaces last
      → Passes members (first ++ (text ++ last))
  last_passes first text last first_space inner last_space before takes takes_end level around outer tail no_not end walked =
      let closed = last ++ (closing ∷ tail) in
      let whole : (first ++ (text ++ last)) ++ (closing ∷ tail) ≡ first ++ (text ++ closed) = simp append_assoc in
      let here = subst (λ r. Finds (at before level (around ∷ outer) r) found) whole walked in
      let at_text = alike found before level (around ∷ outer) (first ++ (text ++ closed)) (text ++ closed)
      (spaces_behind first (text ++ closed) first_space) here in
      let behind_text = inner before takes level (around ∷ outer) closed (closing_tail last tail last_space) at_text in
      let counted = behind_text.0 in
      closing_passes after.Member counted around outer last tail refl
      (and_so counted.is_not (still_no_not level around outer counted behind_text.1 no_not) _) last_space end behind_text.2

  another_passes : (first text last others : List ℕ) → AreSpaces first → Passes predicate text → AreSpaces last → Passes members others
      → Passes members (first ++ (text ++ (last ++ (comma ∷ others))))
  another_passes first text last others first_space inner last_space more before takes takes_end level around outer tail no_not end walked =
      let rest = others ++ (closing ∷ tail) in
      let following = last ++ (comma ∷ rest) in
      let whole : (first ++ (text ++ (last ++ (comma ∷ others)))) ++ (closing ∷ tail) ≡ first ++ (text ++ following) = simp append_assoc in
      let here = subst (λ r. Finds (at before level (around ∷ outer) r) found) whole walked in
      let at_text = alike found before level (around ∷ outer) (first ++ (text ++ following)) (text ++ following)
      (spaces_behind first (text ++ following) first_space) here in
      let behind_text = inner before takes level (around ∷ outer) following (comma_tail last rest last_space) at_text in
      let counted = behind_text.0 in
      more after.Comma refl refl counted around outer tail (still_no_not level around outer counted behind_text.1 no_not) end
      (comma_passes counted (around ∷ outer) last rest last_space behind_text.2)

  part_passes : (part : Part) (cs : List ℕ) → Is part cs → Passes part cs
  part_passes part cs (an_option text is) = λ before takes level outer tail end walked.
      (with_member level, inl refl, option_passes text is before takes level outer tail end walked)
  part_passes part cs (a_group name spaces inside either are inner) =
      group_passes name spaces inside either are (part_passes members inside inner)
  part_passes part cs (a_negation spaces first text last are first_space inner last_space) =
      negation_passes spaces first text last are first_space (part_passes predicate text inner) last_space
  part_passes part cs (no_member spaces are) = λ before takes takes_end level around outer tail no_not end walked.
      closing_passes before level around outer spaces tail takes_end (and_so level.is_not no_not _) are end walked
  part_passes part cs (last_member first text last first_space inner last_space) =
      last_passes first text last first_space (part_passes predicate text inner) last_space
  part_passes part cs (another first text last others first_space inner last_space more) =
      another_passes first text last others first_space (part_passes predicate text inner) last_space (part_passes members others more)

-- ---- `cfg(..)`

spaces_alone : (spaces : List ℕ) → AreSpaces spaces → behind_spaces spaces ≡ []
spaces_alone [] are = refl
spaces_alone (s ∷ spaces) are = rw are.0 (spaces_alone spaces are.1)

spaces_dropped : (spaces : List ℕ) → AreSpaces spaces → without_spaces_behind spaces ≡ []
spaces_dropped [] are = refl
spaces_dropped (s ∷ spaces) are = rw (are.0, spaces_dropped spaces are.1) refl

some_left : (cs : List ℕ) (c : ℕ) → nat_eq (length (cs ++ (c ∷ []))) 0 ≡ false
some_left cs c = elim (cases_Bool (nat_eq (length (cs ++ (c ∷ []))) 0)) [
  | inr some ↦ some
  | inl none ↦ absurd (omega (arith, eqb-true (length (cs ++ (c ∷ []))) 0 none, length-append cs (c ∷ [])))
]

closing_kept : (cs spaces : List ℕ) → AreSpaces spaces
    → without_spaces_behind (cs ++ (closing ∷ spaces)) ≡ cs ++ (closing ∷ [])
closing_kept [] spaces are = rw (spaces_dropped spaces are) refl
closing_kept (c ∷ cs) spaces are =
    rw (closing_kept cs spaces are, some_left cs closing, and_false (is_whitespace c)) refl

closed_there : (so_far : Bool) (cs : List ℕ) → is_closed so_far (cs ++ (closing ∷ [])) ≡ true
closed_there so_far [] = refl
closed_there so_far (c ∷ cs) = closed_there (c == closing) cs

end_reading : (spaces : List ℕ) → AreSpaces spaces → reading_at after.Member (closing ∷ spaces) ≡ ends spaces
unfolding reading_at
end_reading spaces are = rw (spaces_alone spaces are) refl

-- at the end of one predicate nothing is reported
ended_well : (cs opened spaces : List ℕ) (counted : Level)
    → (counted ≡ with_member (first_level cs opened)) ⊎ (counted ≡ with_group (first_level cs opened) [])
    → outcome_of (ends spaces) after.Member counted [] ≡ passes
ended_well cs opened spaces counted (inl is) = rw is refl
ended_well cs opened spaces counted (inr is) = rw is refl

cfg_passes : (cs first text last spaces : List ℕ) (reported : FaultAt) → AreSpaces first → Is predicate text → AreSpaces last → AreSpaces spaces
    → Finds (start cs (first ++ (text ++ (last ++ (closing ∷ spaces))))) (wrong reported) → ⊥
cfg_passes cs first text last spaces reported first_space is last_space spaces_are walked =
    let found = wrong reported in
    let closed = last ++ (closing ∷ spaces) in
    let opened = first ++ (text ++ closed) in
    let level = first_level cs opened in
    let at_text = alike found after.Nothing level [] opened (text ++ closed) (spaces_behind first (text ++ closed) first_space) walked in
    let behind_text = part_passes found predicate text is after.Nothing refl level [] closed (closing_tail found last spaces last_space) at_text in
    let counted = behind_text.0 in
    let at_end = alike found after.Member counted [] closed (closing ∷ spaces) (spaces_behind last (closing ∷ spaces) last_space) behind_text.2 in
    let reading = end_reading spaces spaces_are in
    let finds = stuck next outcome_at found (at after.Member counted [] (closing ∷ spaces)) (ap (λ r. next_of r counted []) reading) at_end in
    let no : passes ≡ wrong reported =
    sym (ended_well cs opened spaces counted behind_text.1) ∙ ap (λ r. outcome_of r after.Member counted []) (sym reading) ∙ finds in
    cc no

cfg_right : (first text last spaces : List ℕ) (reported : FaultAt) → AreSpaces first → Is predicate text → AreSpaces last → AreSpaces spaces
    → IsOutcome (codes "cfg(" ++ (first ++ (text ++ (last ++ (closing ∷ spaces))))) (wrong reported) → ⊥
cfg_right first text last spaces reported first_space is last_space spaces_are outcome =
    let opened = first ++ (text ++ (last ++ (closing ∷ spaces))) in
    let cs = codes "cfg(" ++ opened in
    let front = codes "cfg(" ++ (first ++ (text ++ last)) in
    let whole : cs ≡ front ++ (closing ∷ spaces) = simp append_assoc in
    let ends_so : is_closed false (without_spaces_behind cs) ≡ true =
    ap (λ r. is_closed false (without_spaces_behind r)) whole ∙ ap (is_closed false) (closing_kept front spaces spaces_are)
    ∙ closed_there false front in
    let by_front : IsOutcomeBy (Some opened) cs (wrong reported) =
    subst (λ b. IsOutcomeBy b cs (wrong reported)) (behind_front (codes "cfg(") opened) outcome in
    cfg_passes cs first text last spaces reported first_space is last_space spaces_are
    (subst (λ b. IsCfgOutcome b cs opened (wrong reported)) ends_so by_front)

-- ---- names of targets

no_parenthesis : (cs : List ℕ) → AllByRecursion (λ c. (is_whitespace c ≡ false) × (is_mark c ≡ false)) cs
    → (spaces : List ℕ) → AreSpaces spaces → AllByRecursion (λ c. c ≡ opening → ⊥) (cs ++ spaces)
no_parenthesis [] plain [] are = tt
no_parenthesis [] plain (s ∷ spaces) are =
    ((λ same. let no : false ≡ true = rw same at are.0 in cc no), no_parenthesis [] plain spaces are.1)
no_parenthesis (c ∷ cs) plain spaces are =
    ((λ same. let no : true ≡ false = rw same at plain.0.1 in cc no), no_parenthesis cs plain.1 spaces are)

no_cfg : (cs : List ℕ) → AllByRecursion (λ c. c ≡ opening → ⊥) cs → (found : Option (List ℕ)) → behind (codes "cfg(") cs ≡ found
    → found ≡ None
no_cfg cs none None is = refl
no_cfg cs none (Some rest) is =
    let all : AllByRecursion (λ c. c ≡ opening → ⊥) (codes "cfg(" ++ rest) =
    subst (AllByRecursion (λ c. c ≡ opening → ⊥)) (behind_whole (codes "cfg(") cs rest is) none in
    absurd (all.1.1.1.0 refl)

name_kept : (cs spaces : List ℕ) → AllByRecursion (λ c. (is_whitespace c ≡ false) × (is_mark c ≡ false)) cs → AreSpaces spaces
    → without_spaces_behind (cs ++ spaces) ≡ cs
name_kept [] spaces plain are = spaces_dropped spaces are
name_kept (c ∷ cs) spaces plain are = rw (plain.0.0, name_kept cs spaces plain.1 are) refl

none_in_name : (cs : List ℕ) → AllByRecursion (λ c. (is_whitespace c ≡ false) × (is_mark c ≡ false)) cs
    → list_any in_no_name cs ≡ false
none_in_name [] plain = refl
none_in_name (c ∷ cs) plain = rw (plain.0.0, plain.0.1, none_in_name cs plain.1) refl

name_begins : (cs spaces : List ℕ) → AllByRecursion (λ c. (is_whitespace c ≡ false) × (is_mark c ≡ false)) cs → AreSpaces spaces
    → (others : List ℕ) × AreSpaces others × (behind_spaces (cs ++ spaces) ≡ cs ++ others)
name_begins [] spaces plain are = ([], tt, spaces_alone spaces are)
name_begins (c ∷ cs) spaces plain are = (spaces, are, rw plain.0.0 refl)

target_right : (cs spaces : List ℕ) (reported : FaultAt) → IsTargetName cs → AreSpaces spaces → IsOutcome (cs ++ spaces) (wrong reported) → ⊥
target_right cs spaces reported is are outcome =
    let text = cs ++ spaces in
    let none = no_cfg text (no_parenthesis cs is.plain spaces are) (behind (codes "cfg(") text) refl in
    let finds : wrong reported ≡ outside text = subst (λ b. IsOutcomeBy b text (wrong reported)) none outcome in
    let kept = name_kept cs spaces is.plain are in
    let fine : outside text ≡ passes =
    ap (λ name. outcome_by (name_flaw name) name text) kept
    ∙ rw (is.no_family, is.no_system, none_in_name cs is.plain) refl in
    let no : wrong reported ≡ passes = finds ∙ fine in
    cc no

-- ---- platforms

platform_right : (platform last : List ℕ) (reported : FaultAt) → IsPlatform platform → AreSpaces last
    → IsOutcome (behind_spaces (platform ++ last)) (wrong reported) → ⊥
platform_right platform last reported (a_cfg first text inner first_space is inner_space) are outcome =
    let whole : platform ++ last ≡ codes "cfg(" ++ (first ++ (text ++ (inner ++ (closing ∷ last)))) = simp append_assoc in
    cfg_right first text inner last reported first_space is inner_space are
    (subst (λ cs. IsOutcome (behind_spaces cs) (wrong reported)) whole outcome)
platform_right platform last reported (a_target name is) are outcome =
    let begins = name_begins name last is.plain are in
    target_right name begins.0 reported is begins.1 (subst (λ cs. IsOutcome cs (wrong reported)) begins.2 outcome)

pub none_reported : (text : List ℕ) (own : Fault) → IsDocumentedPlatform (chars text) → IsPlatformFault text own → ⊥
none_reported text own is fault =
    platform_right is.platform is.last fault.reported is.is_platform is.last_space
    (subst (λ cs. IsOutcome cs (wrong fault.reported))
    (ap behind_spaces is.whole ∙ spaces_behind is.first (is.platform ++ is.last) is.first_space)
    fault.is_reported)

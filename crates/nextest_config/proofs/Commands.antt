-- What the changes of a board leave in each slot.
use Rattle.std.proofs.Common.{◌≡◌, ◌≢◌, ◌↔◌, ◌⊎◌, ℕ, zero, suc, Bool, List, [], ◌∷◌, ◌++◌, length, get_or, map, replicate, set, Option, Some, None, refl, sym, ap, subst, ◌∙◌, inl, inr, ⊎_elim}
use Rattle.std.proofs.lemmas.Bool.{cases_eq}
use Rattle.std.proofs.lemmas.List.{get_or-set_other, get_or-set_same, length-replicate, length-set}
use Rattle.std.specs.List.{AllByRecursion, AllZip}
use Rattle.semver.specs.Parse.{Parts}
use Rattle.nextest_config.specs.Board.Commands.{BoardCommand, Changes, ChangesInTurn, empty_board, HoldsLast, HoldsSource, IsLeft, IsOfOther, LeavesInSlot, present, put, slot_in, source_left, sources_after, withdraw}
use Rattle.nextest_config.specs.Choice.Halvings.{halvings}
use Rattle.nextest_config.specs.Board.Slots.{ask_of_versions, board_list, BoardState, IsChanged}
use Rattle.nextest_config.specs.NextestVersion.Verdict.{Verdict}
use Rattle.nextest_config.specs.NextestVersion.{alone, AreRead, IsSelected, IsSelectedFor, SourceAsk}
use Rattle.nextest_config.specs.NextestVersion.Source.{Source}
use Rattle.nextest_config.proofs.OneVerdict.{all_read_once}
use Rattle.nextest_config.proofs.Reorderings.{zip_set}

-- what the slot holds
abbrev held_in : BoardState → ℕ → Option SourceAsk
held_in board slot = get_or board.slots slot None

-- a command changes its slot alone, and leaves something in it
changed_so : (command : BoardCommand) (old new : BoardState) → Changes command old new → (held : Option SourceAsk) × IsChanged (slot_in command) held old new × LeavesInSlot command held
changed_so (put slot source) old new h = (Some (ask_of_versions source.place h.ask.versions), h.changed, (h.ask, h.read, refl))
changed_so (withdraw slot) old new h = (None, h, refl)

as_long : (command : BoardCommand) (old new : BoardState) → Changes command old new → length new.slots ≡ length old.slots
as_long command old new h =
    let (held, changed, leaves) = changed_so command old new h in
    ap length changed.slots ∙ length-set old.slots (slot_in command) held

-- a slot holds what its last command leaves, or what it held before
abbrev HoldsSince : List BoardCommand → ℕ → Option SourceAsk → Option SourceAsk → Type 0
HoldsSince commands slot old new = IsLeft commands slot new ⊎ (AllByRecursion (IsOfOther slot) commands × (new ≡ old))

one_before : (command : BoardCommand) (commands : List BoardCommand) (slot : ℕ) (held : Option SourceAsk) → IsLeft commands slot held → IsLeft (command ∷ commands) slot held
one_before command commands slot held left = record {
  before = command ∷ left.before;
  last = left.last;
  after = left.after;
  whole = ap (λ cs. command ∷ cs) left.whole;
  of_slot = left.of_slot;
  leaves = left.leaves;
  others_later = left.others_later;
}

-- the first command, where no later one is of the slot
module _ (command : BoardCommand) (commands : List BoardCommand) (old between : BoardState) (change : Changes command old between) (slot : ℕ) (new : Option SourceAsk)
    (others : AllByRecursion (IsOfOther slot) commands) (same : new ≡ held_in between slot) where
  of_its_slot : slot_in command ≡ slot → HoldsSince (command ∷ commands) slot (held_in old slot) new
  of_its_slot is =
      let (held, changed, leaves) = changed_so command old between change in
      let there : held_in between (slot_in command) ≡ held = ap (λ slots. get_or slots (slot_in command) None) changed.slots ∙ get_or-set_same old.slots (slot_in command) held None changed.within in
      let now : new ≡ held = same ∙ ap (held_in between) (sym is) ∙ there in
      inl (record { before = []; last = command; after = commands; whole = refl; of_slot = is; leaves = subst (LeavesInSlot command) (sym now) leaves; others_later = others })

  of_another : slot_in command ≢ slot → HoldsSince (command ∷ commands) slot (held_in old slot) new
  of_another other =
      let (held, changed, leaves) = changed_so command old between change in
      let there : held_in between slot ≡ held_in old slot = ap (λ slots. get_or slots slot None) changed.slots ∙ get_or-set_other old.slots (slot_in command) slot held None (λ is. other (sym is)) in
      inr ((other, others), same ∙ there)

  since_first : HoldsSince (command ∷ commands) slot (held_in old slot) new
  since_first = ⊎_elim of_its_slot of_another (cases_eq (slot_in command) slot)

holds_since : (commands : List BoardCommand) (old new : BoardState) → ChangesInTurn commands old new → (slot : ℕ) → HoldsSince commands slot (held_in old slot) (held_in new slot)
holds_since [] old new same slot = inr (tt, ap (λ (board : BoardState). held_in board slot) (sym same))
holds_since (command ∷ commands) old new (between, change, rest) slot =
    ⊎_elim (λ left. inl (one_before command commands slot (held_in new slot) left))
    (λ (others, same). since_first command commands old between change slot (held_in new slot) others same) (holds_since commands between new rest slot)

-- ---- from a board without sources

none_there : (n slot : ℕ) → held_in (empty_board n) slot ≡ None
none_there zero slot = refl
none_there (suc n) zero = refl
none_there (suc n) (suc slot) = none_there n slot

pub holds_last : (n : ℕ) (commands : List BoardCommand) (board : BoardState) → ChangesInTurn commands (empty_board n) board → (slot : ℕ) → HoldsLast commands slot (get_or board.slots slot None)
holds_last n commands board changes slot =
    ⊎_elim inl (λ (others, same). inr (others, same ∙ none_there n slot)) (holds_since commands (empty_board n) board changes slot)

long_since : (commands : List BoardCommand) (old new : BoardState) → ChangesInTurn commands old new → length new.slots ≡ length old.slots
long_since [] old new same = ap (λ (board : BoardState). length board.slots) (sym same)
long_since (command ∷ commands) old new (between, change, rest) = long_since commands between new rest ∙ as_long command old between change

pub stays_long : (n : ℕ) (commands : List BoardCommand) (board : BoardState) → ChangesInTurn commands (empty_board n) board → length board.slots ≡ n
stays_long n commands board changes = long_since commands (empty_board n) board changes ∙ length-replicate n None

-- the choices are those of the last command
counts_since : (commands : List BoardCommand) (last : BoardCommand) (old new : BoardState) → ChangesInTurn (commands ++ (last ∷ [])) old new → new.selections ≡ halvings (length old.slots) (slot_in last)
counts_since [] last old new (between, change, same) =
    let (held, changed, leaves) = changed_so last old between change in
    ap (λ (board : BoardState). board.selections) (sym same) ∙ changed.selections
counts_since (command ∷ commands) last old new (between, change, rest) =
    counts_since commands last between new rest ∙ ap (λ n. halvings n (slot_in last)) (as_long command old between change)

pub counts_last : (n : ℕ) (commands : List BoardCommand) (last : BoardCommand) (board : BoardState) → ChangesInTurn (commands ++ (last ∷ [])) (empty_board n) board → board.selections ≡ halvings n (slot_in last)
counts_last n commands last board changes = counts_since commands last (empty_board n) board changes ∙ ap (λ k. halvings k (slot_in last)) (length-replicate n None)

-- ---- the sources themselves

-- each slot holds its source
abbrev AllHold : List (Option Source) → List (Option SourceAsk) → Type 0
AllHold = AllZip HoldsSource

hold_after : (commands : List BoardCommand) (sources : List (Option Source)) (old new : BoardState) → ChangesInTurn commands old new → AllHold sources old.slots → AllHold (sources_after commands sources) new.slots
hold_after [] sources old new same all = subst (λ (board : BoardState). AllHold sources board.slots) same all
hold_after (command ∷ commands) sources old new (between, change, rest) all =
    let (held, changed, leaves) = changed_so command old between change in
    let next : List (Option Source) = set sources (slot_in command) (source_left command) in
    let set_so : AllHold next (set old.slots (slot_in command) held) = zip_set HoldsSource sources old.slots (slot_in command) (source_left command) held leaves all in
    hold_after commands next between new rest (subst (λ (slots : List (Option SourceAsk)). AllHold next slots) (sym changed.slots) set_so)

none_hold : (n : ℕ) → AllHold (replicate n None) (replicate n None)
none_hold zero = tt
none_hold (suc n) = (refl, none_hold n)

-- the sources ask this, and the slots give the same verdicts
abbrev IsAskedBy : List (Option Source) → List (Option SourceAsk) → List SourceAsk → Type 0
IsAskedBy sources slots asked =
    AreRead (present sources) asked × ((current : Parts) (overridden : Bool) → map (alone current overridden) (board_list slots) ≡ map (alone current overridden) asked)

asked_by : (sources : List (Option Source)) (slots : List (Option SourceAsk)) → AllHold sources slots → (asked : List SourceAsk) × IsAskedBy sources slots asked
asked_by [] [] all = ([], (tt, λ current overridden. refl))
asked_by [] (slot ∷ slots) all = absurd all
asked_by (source ∷ sources) [] all = absurd all
asked_by (None ∷ sources) (slot ∷ slots) all =
    let (asked, (read, same)) = asked_by sources slots all.1 in
    (asked, (read, λ current overridden. rw all.0 (same current overridden)))
asked_by (Some source ∷ sources) (slot ∷ slots) all =
    let (ask, is_read, holds) = all.0 in
    let (asked, (read, same)) = asked_by sources slots all.1 in
    let one : SourceAsk = record { place = source.place; ask = ask } in
    (one ∷ asked, ((record { place = refl; read = is_read }, read), λ current overridden. rw holds (ap (λ (verdicts : List Verdict). alone current overridden one ∷ verdicts) (same current overridden))))

-- the verdict of the slots is that of the sources
pub board_verdict : (n : ℕ) (commands : List BoardCommand) (board : BoardState) (current : Parts) (overridden : Bool) (v : Verdict) → ChangesInTurn commands (empty_board n) board
    → IsSelected (map (alone current overridden) (board_list board.slots)) v ↔ IsSelectedFor (present (sources_after commands (replicate n None))) current overridden v
board_verdict n commands board current overridden v changes =
    let sources = sources_after commands (replicate n None) in
    let (asked, (read, same)) = asked_by sources board.slots (hold_after commands (replicate n None) (empty_board n) board changes (none_hold n)) in (
      λ selected. (asked, read, subst (λ (verdicts : List Verdict). IsSelected verdicts v) (same current overridden) selected),
      λ (others, other_read, selected).
          let is : others ≡ asked = all_read_once (present sources) others asked other_read read in
          let told : map (alone current overridden) others ≡ map (alone current overridden) (board_list board.slots) = ap (map (alone current overridden)) is ∙ sym (same current overridden) in
          subst (λ (verdicts : List Verdict). IsSelected verdicts v) told selected,
    )

-- An input is laid out in one way, or has one faulty line, and not both.
use Rattle.std.proofs.Common.{◌≡◌, ℕ, ◌<◌, ◌==◌, List, [], ◌∷◌, ◌++◌, length, Option, Some, refl, sym, ap, ap₂, ◌∙◌, subst, inl, inr, ◌⊎◌, append_assoc, append-nil, length-append, arith}
use Rattle.std.specs.List.{AllByRecursion}
use Rattle.std.proofs.Math.Logic.{⊎_elim, ⊎_map}
use Rattle.std.proofs.lemmas.Bool.{cond_both}
use Rattle.std.proofs.lemmas.List.{append_cancel_right}
use Rattle.nextest_config.specs.NextestVersion.Source.{Given}
use Rattle.nextest_config.specs.NextestVersion.{SourcePlace}
use Rattle.toml_spans.specs.Line.{line_after}
use Rattle.nextest_config_check.specs.Layout.{line_feed, carriage_return, mark, trimmed, AreBlocks, AreSourcesBefore, IsEmptyOrEndsLine, IsBlock, IsBlockCut, IsFaultyBlock, IsFaultyLine, IsFirstLine, IsInLine, HasNoMarkedLine, HasNoMarkedLineBelow}
use Rattle.nextest_config_check.proofs.Lines.{first_line_of_cut, not_in_line}
use Rattle.nextest_config_check.proofs.Blocks.{ends_line_rest}
use Rattle.nextest_config_check.proofs.SourceLines.{place_once}

-- ---- the first line of a text

-- a text is cut at its first line feed in one way
feed_once : (bytes rest others after : List ℕ) → AllByRecursion IsInLine bytes → AllByRecursion IsInLine others → bytes ++ (line_feed ∷ rest) ≡ others ++ (line_feed ∷ after) → (bytes ≡ others) × (rest ≡ after)
feed_once [] rest [] after one_line other_line e = (refl, cc e)
feed_once [] rest (byte ∷ others) after one_line other_line e = absurd (other_line.0 (cc e))
feed_once (byte ∷ bytes) rest [] after one_line other_line e = absurd (one_line.0 (cc e))
feed_once (byte ∷ bytes) rest (other ∷ others) after one_line other_line e =
    let same = feed_once bytes rest others after one_line.1 other_line.1 (cc e) in
    (cc (e, same.0), same.1)

first_line_once : (text line rest other after : List ℕ) → IsFirstLine text line rest → IsFirstLine text other after → (line ≡ other) × (rest ≡ after)
first_line_once text line rest other after (inl first) (inl second) =
    let same = feed_once first.bytes rest second.bytes after first.one_line second.one_line (sym first.whole ∙ second.whole) in
    (first.line_is ∙ ap trimmed same.0 ∙ sym second.line_is, same.1)
first_line_once text line rest other after (inl first) (inr second) = absurd (not_in_line first.bytes rest (rw first.whole at second.one_line))
first_line_once text line rest other after (inr first) (inl second) = absurd (not_in_line second.bytes after (rw second.whole at first.one_line))
first_line_once text line rest other after (inr first) (inr second) = (first.line_is ∙ sym second.line_is, first.no_rest ∙ sym second.no_rest)

-- ---- the source of a block

block_once : (text : List ℕ) (source other : Given) → IsBlock text source → IsBlock text other → source ≡ other
block_once text source other block another =
    let same = first_line_once text block.line block.contents another.line another.contents block.first another.first in
    let made : SourcePlace → Option (List ℕ) → Given = λ (p : SourcePlace) (c : Option (List ℕ)). record { place = p; contents = c } in
    ap₂ made (place_once another.line source.place other.place (rw (← same.0) block.names) another.names) (block.holds ∙ ap Some same.1 ∙ sym another.holds)

abbrev IsMarked : List ℕ → Type 0
IsMarked text = (more : List ℕ) × (text ≡ mark ++ more)

trimmed_front : (line : List ℕ) → (end : List ℕ) × (line ≡ trimmed line ++ end)
trimmed_front [] = ([], refl)
trimmed_front (byte ∷ []) = cond_both (byte == carriage_return) [] (byte ∷ []) (λ l. (end : List ℕ) × (byte ∷ [] ≡ l ++ end)) (λ _. (byte ∷ [], refl)) (λ _. ([], refl))
trimmed_front (byte ∷ next ∷ rest) = let more = trimmed_front (next ∷ rest) in (more.0, ap (λ l. byte ∷ l) more.1)

first_line_front : (text line rest : List ℕ) → IsFirstLine text line rest → (more : List ℕ) × (text ≡ line ++ more)
first_line_front text line rest (inl ended) =
    let front = trimmed_front ended.bytes in
    (front.0 ++ (line_feed ∷ rest), cc (ended.whole, front.1, ended.line_is, append_assoc line front.0 (line_feed ∷ rest)))
first_line_front text line rest (inr last) = ([], sym last.line_is ∙ sym (append-nil line))

block_marked : (text : List ℕ) (source : Given) → IsBlock text source → IsMarked text
block_marked text source block =
    let front = first_line_front text block.line block.contents block.first in
    (block.names.named ++ front.0, cc (front.1, block.names.whole, append_assoc mark block.names.named front.0))

block_some : (text : List ℕ) (source : Given) → IsBlock text source → 0 < length text
block_some text source block =
    let marked = block_marked text source block in
    omega (arith, ap length marked.1, length-append mark marked.0)

-- what follows a line feed of a text begins a line of what follows the text's first line feed
feed_below : (bytes contents front rest : List ℕ) → AllByRecursion IsInLine bytes → bytes ++ (line_feed ∷ contents) ≡ front ++ (line_feed ∷ rest) → (before : List ℕ) × (contents ≡ before ++ rest) × IsEmptyOrEndsLine before
feed_below [] contents [] rest one_line e = ([], cc e, inl refl)
feed_below [] contents (byte ∷ front) rest one_line e = (front ++ (line_feed ∷ []), cc (e, append_assoc front (line_feed ∷ []) rest), inr (front, refl))
feed_below (byte ∷ bytes) contents [] rest one_line e = absurd (one_line.0 (cc e))
feed_below (byte ∷ bytes) contents (other ∷ front) rest one_line e = feed_below bytes contents front rest one_line.1 (cc e)

unmarked_from_contents : (text line contents : List ℕ) → IsFirstLine text line contents → HasNoMarkedLine contents → HasNoMarkedLineBelow text
unmarked_from_contents text line contents (inl ended) unmarked front rest e =
    let below = feed_below ended.bytes contents front (mark ++ rest) ended.one_line (sym ended.whole ∙ e) in
    unmarked below.0 rest below.1 below.2
unmarked_from_contents text line contents (inr last) unmarked front rest e = not_in_line front (mark ++ rest) (rw e at last.one_line)

-- ---- two cuts of one text

-- where both lists begin one text, the first is the front of the other
abbrev IsFront : List ℕ → List ℕ → List ℕ → List ℕ → Type 0
IsFront front rest longer after = (more : List ℕ) × (longer ≡ front ++ more) × (rest ≡ more ++ after)

append_cut : (front rest longer after : List ℕ) → front ++ rest ≡ longer ++ after → IsFront front rest longer after ⊎ IsFront longer after front rest
append_cut [] rest longer after e = inl (longer, refl, e)
append_cut (byte ∷ front) rest [] after e = inr (byte ∷ front, refl, sym e)
append_cut (byte ∷ front) rest (other ∷ longer) after e =
    let head : byte ≡ other = cc e in
    ⊎_map (λ (shorter : IsFront front rest longer after). (shorter.0, ap₂ (λ b l. b ∷ l) (sym head) shorter.1, shorter.2))
    (λ (shorter : IsFront longer after front rest). (shorter.0, ap₂ (λ b l. b ∷ l) head shorter.1, shorter.2)) (append_cut front rest longer after (cc e))

-- a front of a text with the mark is marked itself, where it is the text or ends a line: what ends a line is no part of the mark
front_marked : (byte : ℕ) (front after more : List ℕ) → mark ++ more ≡ (byte ∷ front) ++ after → (after ≡ []) ⊎ IsEmptyOrEndsLine (byte ∷ front) → IsMarked (byte ∷ front)
front_marked byte front after more e (inl empty) = (more, cc (e, empty, append-nil (byte ∷ front)))
front_marked byte front after more e (inr (inl empty)) = absurd (cc empty)
front_marked byte front after more e (inr (inr (before, ended))) =
    let within : IsFront (byte ∷ front) after mark more → IsMarked (byte ∷ front) = λ shorter.
    let whole : mark ≡ before ++ (line_feed ∷ shorter.0) = cc (shorter.1, ended, append_assoc before (line_feed ∷ []) shorter.0) in
    absurd (not_in_line before shorter.0 (subst (AllByRecursion IsInLine) whole (omega arith))) in
    ⊎_elim (λ (longer : IsFront mark more (byte ∷ front) after). (longer.0, longer.1)) within (append_cut mark more (byte ∷ front) after e)

-- after the end of a line in a block no mark follows
mark_below : (block more : List ℕ) → 0 < length block → IsEmptyOrEndsLine block → IsMarked more → HasNoMarkedLineBelow (block ++ more) → ⊥
mark_below block more some (inl empty) marked unmarked = absurd (omega (arith, ap length empty))
mark_below block more some (inr ends) marked unmarked = unmarked ends.0 marked.0 (cc (ends.1, marked.1, append_assoc ends.0 (line_feed ∷ []) more))

-- where a text is cut, the block goes on by nothing
cut_front : (text block rest longer after : List ℕ) → IsBlockCut text block rest → IsBlockCut text longer after → IsFront block rest longer after → (block ≡ longer) × (rest ≡ after)
cut_front text block rest longer after cut other ([], longer_is, rest_is) = (cc (longer_is, append-nil block), rest_is)
cut_front text block rest longer after cut other (byte ∷ more, longer_is, rest_is) =
    let some : 0 < length block = cut.some (omega (arith, ap length cut.whole, length-append block rest, ap length rest_is)) in
    let going : IsBlockCut text (block ++ (byte ∷ more)) after = rw longer_is at other in
    let ends : (after ≡ []) ⊎ IsEmptyOrEndsLine (byte ∷ more) = ⊎_map (λ e. e) (λ ends. ends_line_rest block (byte ∷ more) ends.0) going.ended in
    let marked = λ (next : IsMarked rest). front_marked byte more after next.0 (sym next.1 ∙ rest_is) ends in
    absurd (⊎_elim (λ empty. omega (arith, ap length (sym rest_is ∙ empty))) (λ ended. mark_below block (byte ∷ more) some ended.0 (marked ended.1) going.unmarked) cut.ended)

cut_once : (text block rest other after : List ℕ) → IsBlockCut text block rest → IsBlockCut text other after → (block ≡ other) × (rest ≡ after)
cut_once text block rest other after cut another =
    let back : IsFront other after block rest → (block ≡ other) × (rest ≡ after) = λ front.
    let same = cut_front text other after block rest another cut front in (sym same.0, sym same.1) in
    ⊎_elim (cut_front text block rest other after cut another) back (append_cut block rest other after (sym cut.whole ∙ another.whole))

-- ---- the first block of a text

-- the text's first block is this source's, and the others follow it
record IsFirstBlock (text : List ℕ) (source : Given) (sources : List Given) (rest : List ℕ) : Type 0 where
  block : List ℕ
  after : List ℕ
  cut : IsBlockCut text block after
  is_block : IsBlock block source
  others : AreSourcesBefore after sources rest

-- a block is cut off from other blocks and a rest
cut_off : (sources : List Given) (block others rest : List ℕ) → AreBlocks sources others → (others ≡ []) ⊎ IsEmptyOrEndsLine block → IsEmptyOrEndsLine (block ++ others) ⊎ (rest ≡ []) → IsMarked rest ⊎ (rest ≡ []) → (others ++ rest ≡ []) ⊎ (IsEmptyOrEndsLine block × IsMarked (others ++ rest))
cut_off sources block [] rest blocks ended (inl ends) (inl marked) = inr (subst IsEmptyOrEndsLine (append-nil block) ends, marked)
cut_off sources block [] rest blocks ended (inr empty) marked = inl empty
cut_off sources block [] rest blocks ended ends (inr empty) = inl empty
cut_off sources block (byte ∷ others) rest blocks (inl none) ends marked = absurd (cc none)
cut_off [] block (byte ∷ others) rest blocks (inr ended) ends marked = absurd (cc blocks)
cut_off (source ∷ sources) block (byte ∷ others) rest blocks (inr ended) ends marked =
    let (next, more, whole, is_block, next_ended, next_blocks) = blocks in
    let begins = block_marked next source is_block in
    inr (ended, (begins.0 ++ (more ++ rest), cc (whole, begins.1, append_assoc next more rest, append_assoc mark begins.0 (more ++ rest))))

first_block : (text : List ℕ) (source : Given) (sources : List Given) (rest : List ℕ) → AreSourcesBefore text (source ∷ sources) rest → IsFirstBlock text source sources rest
first_block text source sources rest before =
    let (block, others, whole, is_block, ended, blocks) = before.blocks in
    let some = block_some block source is_block in
    let ends = rw whole at before.ended in
    let absent : before.front ≡ [] → ⊥ = λ empty. omega (arith, some, ap length (sym whole ∙ empty), length-append block others) in
    let marked : IsMarked rest ⊎ (rest ≡ []) = ⊎_map (⊎_elim (λ empty. absurd (absent empty)) (λ next. next)) (λ empty. empty) before.owed in
    record {
      block = block;
      after = others ++ rest;
      is_block = is_block;
      cut = record {
        whole = cc (before.whole, whole, append_assoc block others rest);
        some = λ _. some;
        ended = cut_off sources block others rest blocks ended ends marked;
        unmarked = unmarked_from_contents block is_block.line is_block.contents is_block.first is_block.unmarked;
      };
      others = record { front = others; whole = refl; blocks = blocks; ended = ⊎_map (ends_line_rest block others) (λ empty. empty) ends; owed = ⊎_map inr (λ empty. empty) marked };
    }

-- ---- the sources in front of a rest

-- the text is blocks of these sources up to a rest where no block begins: it is empty, or its first line is no source line
record StopsAt (text : List ℕ) (sources : List Given) (rest : List ℕ) : Type 0 where
  before : AreSourcesBefore text sources rest
  stop : (rest ≡ []) ⊎ IsFaultyBlock rest

-- where the text stops at once, no block is in front of another rest
stop_or_more : (text rest after : List ℕ) (source : Given) (sources : List Given) → StopsAt text [] rest → AreSourcesBefore text (source ∷ sources) after → ⊥
stop_or_more text rest after source sources stops before =
    let first = first_block text source sources after before in
    let line = first.is_block.line in
    let some = block_some first.block source first.is_block in
    let same : rest ≡ text = cc (stops.before.whole, stops.before.blocks) in
    let begins = first_line_of_cut text first.block first.after line first.is_block.contents first.cut some first.is_block.first in
    let faulty = λ (stop : IsFaultyBlock text). stop.3 source.place (rw (first_line_once text stop.0 stop.1 line begins.0 stop.2 begins.1).0 first.is_block.names) in
    ⊎_elim (λ empty. omega (arith, ap length (sym first.cut.whole ∙ empty), length-append first.block first.after, some)) faulty (rw same at stops.stop)

-- the sources up to where no block begins are one list, and there is one such rest
stops_once : (sources others : List Given) (text rest after : List ℕ) → StopsAt text sources rest → StopsAt text others after → (sources ≡ others) × (rest ≡ after)
stops_once [] [] text rest after stops another = (refl, cc (stops.before.whole, stops.before.blocks, another.before.whole, another.before.blocks))
stops_once [] (other ∷ others) text rest after stops another = absurd (stop_or_more text rest after other others stops another.before)
stops_once (source ∷ sources) [] text rest after stops another = absurd (stop_or_more text after rest source sources another stops.before)
stops_once (source ∷ sources) (other ∷ others) text rest after stops another =
    let first = first_block text source sources rest stops.before in
    let second = first_block text other others after another.before in
    let same = cut_once text first.block first.after second.block second.after first.cut second.cut in
    let same_source = block_once second.block source other (rw (← same.0) first.is_block) second.is_block in
    let more = stops_once sources others second.after rest after (record { before = rw (← same.1) first.others; stop = stops.stop }) (record { before = second.others; stop = another.stop }) in
    (cc (same_source, more.0), more.1)

-- ---- the laws

blocks_stop : (input : List ℕ) (sources : List Given) → AreBlocks sources input → StopsAt input sources []
blocks_stop input sources blocks =
    record { before = record { front = input; whole = sym (append-nil input); blocks = blocks; ended = inr refl; owed = inr refl }; stop = inl refl }

faulty_stop : (input : List ℕ) (number : ℕ) (fault : IsFaultyLine input number) → StopsAt input fault.sources fault.rest
faulty_stop input number fault =
    let before : AreSourcesBefore input fault.sources fault.rest =
    record { front = fault.front; whole = fault.whole; blocks = fault.blocks; ended = inl fault.ended; owed = inl fault.owed } in
    record { before = before; stop = inr (fault.line, fault.more, fault.first, fault.faulty) }

pub sources_once : (input : List ℕ) (sources others : List Given) → AreBlocks sources input → AreBlocks others input → sources ≡ others
sources_once input sources others blocks other_blocks = (stops_once sources others input [] [] (blocks_stop input sources blocks) (blocks_stop input others other_blocks)).0

pub line_once : (input : List ℕ) (number other : ℕ) → IsFaultyLine input number → IsFaultyLine input other → number ≡ other
line_once input number other fault another =
    let same = stops_once fault.sources another.sources input fault.rest another.rest (faulty_stop input number fault) (faulty_stop input other another) in
    let same_front = append_cancel_right fault.front another.front another.rest (cc (same.1, fault.whole, another.whole)) in
    fault.counted ∙ ap line_after same_front ∙ sym another.counted

pub blocks_or_line : (input : List ℕ) (sources : List Given) (number : ℕ) → AreBlocks sources input → IsFaultyLine input number → ⊥
blocks_or_line input sources number blocks fault =
    let same = stops_once sources fault.sources input [] fault.rest (blocks_stop input sources blocks) (faulty_stop input number fault) in
    omega (arith, fault.some, ap length same.1)

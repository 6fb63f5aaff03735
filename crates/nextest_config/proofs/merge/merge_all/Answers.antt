use Rattle.std.proofs.Common.{◌≡◌, ◌+◌, ◌<◌, ◌≤◌, ℕ, zero, suc, List, [], ◌∷◌, ◌++◌, length, get_or, set, take, drop, map, refl, sym, ap, subst, ◌∙◌, arith}
use Rattle.std.proofs.Math.Numerals.{add-one}
use Rattle.std.proofs.lemmas.List.{append-nil, map-append, set_split, take_all}
use Rattle.std.proofs.lemmas.Result.{err_from_is_err_and}
use Rattle.std.specs.List.{AllByRecursion}
use Rattle.nextest_config.proofs.Lists.{all_mapped, map-around}
use Rattle.nextest_config.specs.Merge.{IsMonoid, total}
use Rattle.nextest_config.proofs.merge.merge_all.Goals as goal

-- a list with another element at a place, seen
seen_around : {A X : Type 0} (seen : A → X) (pieces : List A) (i : ℕ) (piece : A) → i < length pieces → map seen (set pieces i piece) ≡ map seen (take i pieces) ++ (seen piece ∷ map seen (drop (i + 1) pieces))
seen_around seen pieces i piece within =
    ap (map seen) (set_split pieces i piece within) ∙ map-append seen (take i pieces) (piece ∷ drop (suc i) pieces)
    ∙ ap (λ n. map seen (take i pieces) ++ (seen piece ∷ map seen (drop n pieces))) (sym (add-one i))

module _ {A X : Type 0} (seen : A → X) (join : X → X → X) (neutral : X) (laws : IsMonoid join neutral) where
  after_neutral : (before after : List X) → AllByRecursion (λ x. x ≡ neutral) before → total join neutral (before ++ after) ≡ total join neutral after
  after_neutral [] after none = refl
  after_neutral (x ∷ before) after none =
      ap (λ y. join y (total join neutral (before ++ after))) none.0 ∙ laws.neutral_first (total join neutral (before ++ after)) ∙ after_neutral before after none.1

  -- the pieces before this place are neutral
  module _ (pieces : List A) (i : ℕ) (emptied : AllByRecursion (λ piece. seen piece ≡ neutral) (take i pieces)) where
    total_from : (x : X) → total join neutral (map seen (take i pieces) ++ (x ∷ map seen (drop (i + 1) pieces))) ≡ join x (total join neutral (map seen (drop (i + 1) pieces)))
    total_from x = after_neutral (map seen (take i pieces)) (x ∷ map seen (drop (i + 1) pieces)) (all_mapped (λ piece. seen piece ≡ neutral) (λ x. x ≡ neutral) seen (λ piece none. none) (take i pieces) emptied)

    -- the piece at the place is taken in and left neutral
    taken_in : (into joined : X) (piece left : A) → i < length pieces → piece ≡ get_or pieces i piece → joined ≡ join into (seen piece) → seen left ≡ neutral
        → join joined (total join neutral (map seen (set pieces i left))) ≡ join into (total join neutral (map seen pieces))
    taken_in into joined piece left within here is none =
        let rest = total join neutral (map seen (drop (i + 1) pieces)) in
        let after = ap (total join neutral) (seen_around seen pieces i left within) ∙ total_from (seen left) ∙ ap (λ x. join x rest) none ∙ laws.neutral_first rest in
        let before = ap (total join neutral) (map-around seen pieces i piece within here) ∙ total_from (seen piece) in
        ap (join joined) after ∙ ap (λ x. join x rest) is ∙ laws.associative into (seen piece) rest ∙ ap (join into) (sym before)

  -- the piece at the place is left as it was
  left_as_it_was : (into same : X) (pieces : List A) (i : ℕ) (piece left : A) → i < length pieces → piece ≡ get_or pieces i piece → same ≡ into → seen left ≡ seen piece
      → join same (total join neutral (map seen (set pieces i left))) ≡ join into (total join neutral (map seen pieces))
  left_as_it_was into same pieces i piece left within here is unchanged =
      let whole = seen_around seen pieces i left within ∙ ap (λ x. map seen (take i pieces) ++ (x ∷ map seen (drop (i + 1) pieces))) unchanged ∙ sym (map-around seen pieces i piece within here) in
      ap (λ x. join x (total join neutral (map seen (set pieces i left)))) is ∙ ap (λ xs. join into (total join neutral xs)) whole

  all_taken_in : (into : X) (pieces : List A) → AllByRecursion (λ piece. seen piece ≡ neutral) pieces → into ≡ join into (total join neutral (map seen pieces))
  all_taken_in into pieces emptied =
      let none = after_neutral (map seen pieces) [] (all_mapped (λ piece. seen piece ≡ neutral) (λ x. x ≡ neutral) seen (λ piece none. none) pieces emptied) in
      sym (ap (join into) (ap (total join neutral) (sym (append-nil (map seen pieces))) ∙ none) ∙ laws.neutral_last into)

emptied_up_to : {A : Type 0} (P : A → Type 0) (pieces : List A) (i : ℕ) (left : A) → i < length pieces → AllByRecursion P (take i pieces) → P left → AllByRecursion P (take (suc i) (set pieces i left))
emptied_up_to P [] i left within emptied none = absurd (omega arith)
emptied_up_to P (piece ∷ pieces) zero left within emptied none = (none, tt)
emptied_up_to P (piece ∷ pieces) (suc i) left within emptied none = (emptied.0, emptied_up_to P pieces i left (omega arith) emptied.1 none)

one_more_emptied : {A : Type 0} (P : A → Type 0) (pieces : List A) (i : ℕ) (left : A) → i < length pieces → AllByRecursion P (take i pieces) → P left → AllByRecursion P (take (i + 1) (set pieces i left))
one_more_emptied P pieces i left within emptied none = rw (add-one i) (emptied_up_to P pieces i left within emptied none)

pub returns-in_err-merge-clause-kept : goal.returns-in_err-merge-clause-kept
returns-in_err-merge-clause-kept g c =
    let p = err_from_is_err_and c.from_residual.result c.from_residual.ensures.1 in
    let within : c.loop-piece.piece-index < length c.loop-piece.pieces = omega arith in
    let kept = left_as_it_was g.T.Merge.seen g.T.Merge.join g.T.Merge.neutral g.met.T.Merge.laws (g.T.Merge.seen c.loop-piece.into) (g.T.Merge.seen c.merge.new.self) c.loop-piece.pieces c.loop-piece.piece-index c.piece-item.result c.merge.new.later
    within c.piece-item.is c.in_err-merge.ensures.unchanged (rw (← c.piece-item.is) at c.in_err-merge.ensures.later_unchanged) in
    rw p.1 (kept ∙ c.loop-piece.invariant.kept)

pub loop-piece-preserved : goal.loop-piece-preserved
loop-piece-preserved g c =
    let before = c.loop-piece.invariant in
    let within : c.loop-piece.piece-index < length c.loop-piece.pieces = omega arith in
    let taken = taken_in g.T.Merge.seen g.T.Merge.join g.T.Merge.neutral g.met.T.Merge.laws c.loop-piece.pieces c.loop-piece.piece-index before.emptied (g.T.Merge.seen c.loop-piece.into) (g.T.Merge.seen c.merge.new.self) c.piece-item.result c.merge.new.later
    within c.piece-item.is (rw (← c.piece-item.is) at c.in_ok-merge.ensures.joined) c.in_ok-merge.ensures.emptied in
    record {
      emptied = one_more_emptied (λ piece. g.T.Merge.seen piece ≡ g.T.Merge.neutral) c.loop-piece.pieces c.loop-piece.piece-index c.merge.new.later within before.emptied c.in_ok-merge.ensures.emptied;
      kept = taken ∙ before.kept;
    }

pub returns-clause-joined : goal.returns-clause-joined
returns-clause-joined g c =
    let ended : length c.loop-piece.pieces ≤ c.loop-piece.piece-index = omega arith in
    let all = take_all c.loop-piece.piece-index c.loop-piece.pieces ended in
    let emptied = subst (AllByRecursion (λ piece. g.T.Merge.seen piece ≡ g.T.Merge.neutral)) all c.loop-piece.invariant.emptied in
    all_taken_in g.T.Merge.seen g.T.Merge.join g.T.Merge.neutral g.met.T.Merge.laws (g.T.Merge.seen c.loop-piece.into) c.loop-piece.pieces emptied ∙ c.loop-piece.invariant.kept

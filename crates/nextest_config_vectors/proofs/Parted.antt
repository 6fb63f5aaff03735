-- A list of sources, cut at two positions.
use Rattle.std.proofs.Common.{◌≡◌, ◌-◌, ◌≤◌, ℕ, List, [], ◌∷◌, ◌++◌, length, take, drop, map, sym, ap, ◌∙◌, arith}
use Rattle.std.proofs.Math.Seq.{take-add}
use Rattle.std.proofs.lemmas.List.{append-nil, length-drop, length-map, length-take-le, map-append, take-append-drop}
use Rattle.std.proofs.lemmas.List.Folds.{drop_split}
use Rattle.std.specs.List.{slice_range}
use Rattle.nextest_config.specs.Merge.{in_a_row, IsCut}

module _ {X Y : Type 0} (f : X → Y) (xs : List X) (from to : ℕ) (in_order : from ≤ to) where
  abbrev pub front : List Y
  front = map f (take from xs)

  abbrev pub piece : List Y
  piece = map f (slice_range xs from to)

  abbrev pub behind : List Y
  behind = map f (drop to xs)

  pub cut_to : IsCut (map f (take to xs)) (front ∷ piece ∷ [])
  cut_to =
      let parts : take from xs ++ slice_range xs from to ≡ take to xs = sym (take-add from (to - from) xs) ∙ ap (λ n. take n xs) (omega (arith, in_order)) in
      ap (λ ys. front ++ ys) (append-nil piece) ∙ sym (map-append f (take from xs) (slice_range xs from to)) ∙ ap (map f) parts

  pub cut_whole : IsCut (map f xs) (front ∷ piece ∷ behind ∷ [])
  cut_whole =
      let parts : take from xs ++ (slice_range xs from to ++ drop to xs) ≡ xs = ap (λ ys. take from xs ++ ys) (sym (drop_split xs from to in_order)) ∙ take-append-drop from xs in
      ap (λ ys. front ++ (piece ++ ys)) (append-nil behind) ∙ ap (λ ys. front ++ ys) (sym (map-append f (slice_range xs from to) (drop to xs)))
      ∙ sym (map-append f (take from xs) (slice_range xs from to ++ drop to xs)) ∙ ap (map f) parts

  pub front_long : from ≤ length xs → length (in_a_row (front ∷ [])) ≡ from
  front_long within = ap length (append-nil front) ∙ length-map (take from xs) f ∙ length-take-le from xs within

  pub piece_long : to ≤ length xs → length piece ≡ to - from
  piece_long within = length-map (slice_range xs from to) f ∙ length-take-le (to - from) (drop from xs) (omega (arith, in_order, within, length-drop from xs))

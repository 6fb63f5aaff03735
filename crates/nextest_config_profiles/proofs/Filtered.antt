-- Two lists element by element, of which one is mapped and filtered, with one element more.
use Rattle.std.proofs.Common.{◌≡◌, ◌∙◌, ◌<◌, ◌+◌, ℕ, Bool, true, false, List, [], ◌∷◌, ◌++◌, append-nil, get_or, length, map, sym, take}
use Rattle.std.proofs.lemmas.List.{map_push, take_more}
use Rattle.std.proofs.lemmas.List.Elements.{filter-append}
use Rattle.std.specs.List.{AllZip, filter}
use Rattle.nextest_config.proofs.Lists.{zip_push}

module _ {X Y Z : Type 0} (R : Y → Z → Type 0) (p : Y → Bool) (f : X → Y) (xs : List X) (i : ℕ) (x : X) (zs : List Z) where
  pub more_kept : (z : Z) → i < length xs → (passes : Bool) → passes ≡ p (f (get_or xs i x)) → passes ≡ true → AllZip R (filter p (map f (take i xs))) zs → R (f (get_or xs i x)) z
      → AllZip R (filter p (map f (take (i + 1) xs))) (zs ++ (z ∷ []))
  more_kept z within passes is holds so_far here =
      rw (take_more xs i x within, map_push f (take i xs) (get_or xs i x), filter-append p (map f (take i xs)) (f (get_or xs i x) ∷ []), sym is ∙ holds)
      (zip_push R (filter p (map f (take i xs))) zs (f (get_or xs i x)) z so_far here)

  pub more_dropped : i < length xs → (passes : Bool) → passes ≡ p (f (get_or xs i x)) → passes ≡ false → AllZip R (filter p (map f (take i xs))) zs
      → AllZip R (filter p (map f (take (i + 1) xs))) zs
  more_dropped within passes is fails so_far =
      rw (take_more xs i x within, map_push f (take i xs) (get_or xs i x), filter-append p (map f (take i xs)) (f (get_or xs i x) ∷ []), sym is ∙ fails, append-nil (filter p (map f (take i xs))))
      so_far

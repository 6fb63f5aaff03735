-- Two lists element by element, of which one is mapped, with one element more.
use Rattle.std.proofs.Common.{◌<◌, ◌+◌, ℕ, List, [], ◌∷◌, ◌++◌, get_or, length, map, take}
use Rattle.std.proofs.lemmas.List.{map_push, take_more}
use Rattle.std.specs.List.{AllZip}
use Rattle.nextest_config.proofs.Lists.{zip_push}

pub zip_more : {X Y Z : Type 0} (R : Y → Z → Type 0) (f : X → Y) (xs : List X) (i : ℕ) (x : X) (zs : List Z) (z : Z) → i < length xs
    → AllZip R (map f (take i xs)) zs → R (f (get_or xs i x)) z → AllZip R (map f (take (i + 1) xs)) (zs ++ (z ∷ []))
zip_more R f xs i x zs z within so_far here =
    rw (take_more xs i x within, map_push f (take i xs) (get_or xs i x)) (zip_push R (map f (take i xs)) zs (f (get_or xs i x)) z so_far here)

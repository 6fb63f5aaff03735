-- Two lists by the positions of their elements, one element more.
use Rattle.std.proofs.Common.{◌≡◌, ◌+◌, ℕ, suc, List, [], ◌∷◌, ◌++◌, arith, length, subst}
use Rattle.nextest_config_command.specs.Positions.{AllZipFrom}

pub zip_from_push : {X Y : Type 0} (R : ℕ → X → Y → Type 0) (start : ℕ) (xs : List X) (ys : List Y) (position : ℕ) (x : X) (y : Y)
    → position ≡ start + length xs → AllZipFrom R start xs ys → R position x y → AllZipFrom R start (xs ++ (x ∷ [])) (ys ++ (y ∷ []))
zip_from_push R start [] [] position x y at none here =
    let here_at : position ≡ start = omega arith in
    (subst (λ n. R n x y) here_at here, tt)
zip_from_push R start [] (z ∷ ys) position x y at h here = absurd h
zip_from_push R start (w ∷ xs) [] position x y at h here = absurd h
zip_from_push R start (w ∷ xs) (z ∷ ys) position x y at h here = (h.0, zip_from_push R (suc start) xs ys position x y (omega arith) h.1 here)

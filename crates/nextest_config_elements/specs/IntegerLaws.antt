-- Whether an integer fits a width, and whether one is at most another: each is decided.
use Rattle.std.specs.Prelude.{◌≤ℤ◌, ◌<ℤ◌, ◌<◌, ◌^◌, ℤ, FitsSigned}
use Rattle.std.specs.Int.{Width}
use Rattle.std.specs.Int.Signed.{mag}
use Rattle.std.proofs.Common.{inl, inr, rules}
use Rattle.std.proofs.lemmas.Int.{by_lt_z}
use mir.Val.{hbits}
use Rattle.nextest_config_values.specs.Decisions.{below_decided, IsDecided}

pub not_both : (a b : ℤ) → a <ℤ b → b ≤ℤ a → ⊥
not_both a b below above = search rules

pub at_most_decided : (a b : ℤ) → IsDecided (a ≤ℤ b)
at_most_decided a b = by_lt_z b a (λ above. inr (λ below. not_both b a above below)) inl

fits_below : (w : Width) (number : ℤ) → IsDecided (mag number < 2 ^ hbits w)
    → IsDecided (FitsSigned w number)
fits_below w number (inl below) = inl (record { sfits = below })
fits_below w number (inr over) = inr (λ fits. over fits.sfits)

pub fits_decided : (w : Width) (number : ℤ) → IsDecided (FitsSigned w number)
fits_decided w number = fits_below w number (below_decided (mag number) (2 ^ hbits w))

-- Readings of values of which only the faults count.
use Rattle.std.specs.Prelude.{◌≡◌, ℕ, List}
use Rattle.std.proofs.Common.{inl, inr, refl}
use Rattle.toml.specs.Data.{as_str, Data}
use Rattle.nextest_config_values.specs.Decisions.{IsDecided, IsFoundOrNone, same_text_decided}
use Rattle.nextest_config_values.specs.Read.{kind, one_that, only, Reading, wrong_kind, wrong_value}

-- a value is accepted, and nothing is made of it
abbrev pub Acceptance : Type 0
Acceptance = Unit {0}

-- any value is accepted
abbrev pub any_value : {D : Type 0} → Reading D Acceptance
any_value = only tt

pub holds_or_not : {Holds : Type 0} → IsDecided Holds
    → IsFoundOrNone (λ (accepted : Acceptance). Holds)
holds_or_not (inl holds) = inl (tt, holds)
holds_or_not (inr fails) = inr (λ accepted holds. fails holds)

-- a value of the right kind is accepted where this holds
abbrev pub accepts_where : (Holds : Type 0) → IsDecided Holds → List ℕ → Reading Data Acceptance
accepts_where Holds decided expected = one_that (λ accepted. Holds) (λ x y a b. refl)
    (holds_or_not decided) (λ value. wrong_value value expected)

-- this word alone (TOML 1.1, "String")
abbrev pub one_word : List ℕ → List ℕ → Reading Data Acceptance
one_word word expected =
    kind as_str (λ text. accepts_where (text ≡ word) (same_text_decided text word) expected)
    (wrong_kind expected)

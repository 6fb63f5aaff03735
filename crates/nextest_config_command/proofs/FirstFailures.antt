-- The first of a list that fails.
use Rattle.std.proofs.Common.{◌≡◌, ◌++◌, ◌∷◌, List, ℕ}
use Rattle.std.specs.List.{AllZip}
use Rattle.nextest_config_command.specs.Files.{IsFirstFailure, UnlessMemory}
use Rattle.nextest_config_command.specs.declared.files.Unanswered.{Unanswered}
use Rattle.nextest_config_command.specs.declared.files.Unanswered.TheVariants as fails

pub first_fails : {A B : Type 0} (Gives : A → B → Type 0) (Fails : A → List ℕ → Type 0) (xs before : List A) (x : A) (after : List A) (ys : List B) (unanswered : Unanswered)
    → xs ≡ before ++ (x ∷ after) → AllZip Gives before ys → UnlessMemory (Fails x) unanswered → UnlessMemory (IsFirstFailure Gives Fails xs) unanswered
first_fails Gives Fails xs before x after ys (fails.Unread said) whole given failed =
    record { before = before; x = x; after = after; whole = whole; ys = ys; given = given; fails = failed }
first_fails Gives Fails xs before x after ys fails.Memory whole given failed = tt

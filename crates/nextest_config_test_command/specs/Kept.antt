-- What the command does over streams of which no call fails.
use Rattle.std.specs.Prelude.{◌≡◌, ◌⊎◌, ℕ, List, ◌++◌, codes, Some}
use Rattle.nextest_config_command.specs.Files.{PathStates}
use Rattle.nextest_config_command.specs.Found.{IsFirstUnread}
use Rattle.nextest_config_command.specs.Streams.{IsServed, line_of}
use Rattle.nextest_config_command.specs.declared.request.Request.{Request}

-- the line of the first file that can't be read, or that memory was refused, stands after what was
-- said before
abbrev pub SaysWhy : PathStates → Request → List ℕ → List ℕ → Type 0
SaysWhy holds request said says = (why : List ℕ)
    × (IsFirstUnread holds request why ⊎ (why ≡ codes "out of memory"))
    × (says ≡ said ++ line_of why)

-- the request is served, and all of it is told; or the command ends with 3, has written nothing and
-- says why
abbrev pub IsDoneOrSaysWhy : PathStates → Request → ℕ → List ℕ → List ℕ → List ℕ → List ℕ → Type 0
IsDoneOrSaysWhy holds request number old new said says =
    IsServed holds request number (Some old) (Some new) ⊥ (Some said) (Some says)
    ⊎ ((number ≡ 3) × (new ≡ old) × SaysWhy holds request said says)

-- Why a change of a board is refused.
use Rattle.std.specs.Prelude.{◌≡◌, ℕ, ◌<◌, ◌≤◌, ◌⊎◌}
use Rattle.nextest_config.specs.NextestVersion.Error.{refusal_of}
use Rattle.nextest_config.specs.NextestVersion.Source.{Source}
use Rattle.nextest_config.specs.NextestVersion.VersionOnly.{IsErrorOf}
use Rattle.nextest_config.specs.declared.board.refusal.BoardRefusal.{BoardRefusal}
use Rattle.nextest_config.specs.declared.board.refusal.BoardRefusal.TheVariants as refusals

-- the refusal tells how many slots the board has, of which none has this number
abbrev pub IsNoSlot : ℕ → ℕ → BoardRefusal → Type 0
IsNoSlot slots slot (refusals.NoSuchSlot told) = (told ≡ slots) × (slots ≤ slot)
IsNoSlot slots slot (refusals.Refused error) = ⊥
IsNoSlot slots slot refusals.Memory = ⊥

-- the source is refused with its one error, or memory was refused
abbrev pub IsRefusedSource : Source → BoardRefusal → Type 0
IsRefusedSource source (refusals.NoSuchSlot told) = ⊥
IsRefusedSource source (refusals.Refused error) = IsErrorOf source (refusal_of error)
IsRefusedSource source refusals.Memory = Unit {0}

-- a put is refused: the board has no such slot; or it has, and the source is refused, or memory was
abbrev pub IsRefusedPut : ℕ → ℕ → Source → BoardRefusal → Type 0
IsRefusedPut slots slot source refusal =
    IsNoSlot slots slot refusal ⊎ (slot < slots × IsRefusedSource source refusal)

-- What is written to a stream.
use Rattle.std.specs.Prelude.{◌≡◌, ◌⊎◌, ℕ, List, ◌++◌, Option}
use Rattle.std.specs.Io.KnownBytes.{Appends}
use Rattle.std.specs.IoError.{error_kind}
use Rattle.std.specs.declared.io.Error.{Error}
use Rattle.std.specs.declared.io.ErrorKind.TheVariants.{BrokenPipe}

-- known bytes stay, and what stands before this rest of the text comes after them
pub record AddsUpTo (old new : Option (List ℕ)) (text rest : List ℕ) : Type 0 where
  pub front : List ℕ
  pub cut : text ≡ front ++ rest
  pub added : Appends old new front

-- known bytes stay, and a front of the text comes after them
abbrev pub AddsFront : Option (List ℕ) → Option (List ℕ) → List ℕ → Type 0
AddsFront old new text = (rest : List ℕ) × AddsUpTo old new text rest

-- known bytes stay, and the text comes after them; or a call failed, and a front of it does
abbrev pub AddsOrFails : Type 0 → Option (List ℕ) → Option (List ℕ) → List ℕ → Type 0
AddsOrFails failed old new text = Appends old new text ⊎ (failed × AddsFront old new text)

-- the error says that who reads what is written is gone
abbrev pub IsReaderGone : Error → Type 0
IsReaderGone error = error_kind error ≡ BrokenPipe

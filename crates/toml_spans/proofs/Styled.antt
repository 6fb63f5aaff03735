-- Writes in turn under the options of a format.
use Rattle.std.proofs.Common.{◌≡◌, ℕ, List, ◌++◌, Option, Result, option_map, subst, rules}
use Rattle.std.proofs.Output.{has_written_styled_append}
use Rattle.std.specs.declared.fmt.Formatter.{Formatter}
use Rattle.std.specs.Fmt.{DisplaysStyledOnOk, HasWritten, HasWrittenStyled, IsFlush, IsPlainFormatter}
use Rattle.std.specs.declared.fmt.Error.{Error}

module _ {W : Type 0} (took : W → List ℕ → W → Type 0) where
  pub styled_append : (f g h : Formatter W) (a b : List ℕ) → HasWrittenStyled took f a g → HasWrittenStyled took g b h → HasWrittenStyled took f (a ++ b) h
  styled_append f g h a b = has_written_styled_append took f a g b h

  -- a text after another one
  pub styled_after : (f g h : Formatter W) (written : Result (Unit {0}) Error) (front : List ℕ) (text : Option (List ℕ)) → (IsFlush f → HasWrittenStyled took f front g) → DisplaysStyledOnOk took g written text h
      → DisplaysStyledOnOk took f written (option_map (λ behind. front ++ behind) text) h
  styled_after f g h written front text first later = search (rules, styled_append)

module _ {W : Type 0} {took : W → List ℕ → W → Type 0} {f g h : Formatter W} {IsDone : Type 0} {front text : List ℕ} where
  -- one write, and then another
  pub styled_then : (IsFlush f → HasWrittenStyled took f front g) → (IsFlush g → IsDone → HasWrittenStyled took g text h) → IsFlush f
      → IsDone → HasWrittenStyled took f (front ++ text) h
  styled_then first later flush done = let written = first flush in has_written_styled_append took f front g text h written
      (later written.flush done)

  -- one write more, which makes this text
  pub styled_more : {whole : List ℕ} → HasWrittenStyled took f front g → (IsFlush g → IsDone → HasWrittenStyled took g text h) → IsDone
      → front ++ text ≡ whole → HasWrittenStyled took f whole h
  styled_more so_far more done is = subst (λ (t : List ℕ). HasWrittenStyled took f t h) is
      (has_written_styled_append took f front g text h so_far (more so_far.flush done))

-- what is written so under all options is written so under none
pub plainly : {W : Type 0} {took : W → List ℕ → W → Type 0} {f g : Formatter W} {text : List ℕ} → IsPlainFormatter f
    → HasWrittenStyled took f text g → HasWritten took f text g
plainly plain written = search rules

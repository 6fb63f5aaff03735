-- What can't be read, and the walk upwards, one folder more.
use Rattle.std.proofs.Common.{◌≡◌, ◌+◌, ◌<◌, ℕ, List, Some, arith, codes, inl, inr, subst, sym}
use Rattle.std.proofs.lemmas.Bool.{cases_order}
use Rattle.nextest_config_command.specs.Files.{bytes, PathStates, unread_text, UnlessMemory}
use Rattle.nextest_config_command.specs.Found.{ArePassed, IsPassedAt, IsUnread, IsUnreadAbove, IsUnreadOnWalk, path_above}
use Rattle.nextest_config_command.specs.Request.{in_folder}
use Rattle.nextest_config_command.specs.declared.files.Unanswered.{Unanswered}
use Rattle.nextest_config_command.specs.declared.files.Unanswered.TheVariants as fails

pub passed_more : (holds : PathStates) (level : ℕ) → ArePassed holds level → IsPassedAt holds (path_above level) → ArePassed holds (level + 1)
passed_more holds level before here other below = elim (cases_order other level) [
  | inl same ↦ subst (λ (n : ℕ). IsPassedAt holds (path_above n)) (sym same) here
  | inr (inl lower) ↦ before other lower
  | inr (inr above) ↦ absurd (omega (arith, below, above))
]

pub unread_above : (holds : PathStates) (many level : ℕ) (unanswered : Unanswered) → level < many → ArePassed holds level
    → UnlessMemory (IsUnreadOnWalk holds (path_above level)) unanswered → UnlessMemory (IsUnreadAbove holds many) unanswered
unread_above holds many level (fails.Unread said) below passed unread = (level, below, passed, unread)
unread_above holds many level fails.Memory below passed unread = tt

-- a file stands in the place of a folder
pub unread_folder : (holds : PathStates) (path contents : List ℕ) (unanswered : Unanswered) → holds (Some path) (bytes contents)
    → UnlessMemory (λ said. said ≡ unread_text path (codes "not a folder")) unanswered → UnlessMemory (IsUnread holds (in_folder path)) unanswered
unread_folder holds path contents (fails.Unread said) held is = (bytes contents, held, is)
unread_folder holds path contents fails.Memory held is = tt

-- The fail limit, and when it is reached (nextest's configuration reference).
use Rattle.std.specs.Prelude.{◌≡◌, ℕ, ◌≤◌, Bool, true, false, List, ◌++◌, codes, Option, Some, None}
use Rattle.std.specs.Fmt.{decimal}
use Rattle.nextest_config_elements.specs.declared.max_fail.MaxFail.{MaxFail}
use Rattle.nextest_config_elements.specs.declared.max_fail.MaxFail.TheVariants.{Count, All}
use Rattle.nextest_config_elements.specs.declared.max_fail.TerminateMode.{TerminateMode}
use Rattle.nextest_config_elements.specs.declared.max_fail.TerminateMode.TheVariants.{Wait, Immediate}

-- the word of a mode
abbrev pub mode_word : TerminateMode → List ℕ
mode_word Wait = codes "wait"
mode_word Immediate = codes "immediate"

-- the limit that `fail-fast` sets as a boolean
abbrev pub fail_fast_limit : Bool → MaxFail
fail_fast_limit true = Count 1 Wait
fail_fast_limit false = All

-- so many failures reach the limit, and running tests are then treated by this mode
abbrev pub IsReached : MaxFail → ℕ → TerminateMode → Type 0
IsReached All failed mode = ⊥
IsReached (Count max_fail terminate) failed mode = (max_fail ≤ failed) × (mode ≡ terminate)

-- how a limit prints
abbrev pub limit_text : MaxFail → List ℕ
limit_text All = codes "all"
limit_text (Count max_fail Wait) = decimal max_fail
limit_text (Count max_fail Immediate) = decimal max_fail ++ codes ":immediate"

-- how a limit prints, whatever the format asks for: nothing is said of numbers
abbrev pub styled_limit_text : MaxFail → Option (List ℕ)
styled_limit_text All = Some (limit_text All)
styled_limit_text (Count max_fail mode) = None

-- What the program does with its streams.
use Rattle.std.specs.Prelude.{◌≡◌, ℕ, Bool, List, ◌++◌, codes, Option, IfSome}
use Rattle.std.specs.Io.KnownBytes.{Appends, IsAtEnd, Keeps}
use Rattle.semver.specs.Parse.{Parts}
use Rattle.nextest_config.specs.declared.nextest_version.edition.Edition.{Edition}
use Rattle.nextest_config_report.specs.Streams.{AddsOrFails}
use Rattle.nextest_config_check.specs.Report.{IsReport, status_of}
use Rattle.nextest_config_check.specs.declared.streams.RunFault.{RunFault}
use Rattle.nextest_config_check.specs.declared.streams.RunFault.TheVariants as faults
use Rattle.nextest_config_check.specs.declared.report.Outcome.{Outcome}

-- how a fault of a run prints
abbrev pub run_fault_text : RunFault → List ℕ
run_fault_text faults.Read = codes "cannot read input"
run_fault_text faults.Write = codes "cannot write output"
run_fault_text faults.Memory = codes "out of memory"

-- at this fault nothing was written, or a write failed
abbrev pub Writes : Type 0 → Option (List ℕ) → Option (List ℕ) → RunFault → Type 0
Writes unwritten old new faults.Read = Keeps old new
Writes unwritten old new faults.Write = unwritten
Writes unwritten old new faults.Memory = Keeps old new

-- the status is that of an outcome, and where the input is known, the report with that outcome was
-- written
abbrev pub WritesReport : Option (List ℕ) → Parts → Bool → Edition → ℕ → Option (List ℕ)
    → Option (List ℕ) → Type 0
WritesReport known current overridden edition status old new =
    (outcome : Outcome) × (status ≡ status_of outcome)
    × IfSome known (λ input. (text : List ℕ)
    × IsReport input current overridden edition text outcome × Appends old new text)

-- what a fault leaves of the input and the output: nothing was written; or all was read, and a
-- write failed
abbrev pub StreamsAfter : RunFault → Option (List ℕ) → Type 0 → Option (List ℕ)
    → Option (List ℕ) → Type 0
StreamsAfter faults.Read left unwritten old new = Keeps old new
StreamsAfter faults.Write left unwritten old new = IsAtEnd left × unwritten
StreamsAfter faults.Memory left unwritten old new = Keeps old new

-- a fault ended the check: what stands of the input and the output, and the line that says so, or
-- the front of it that was said where that failed
abbrev pub IsCutShort : Option (List ℕ) → Type 0 → Option (List ℕ) → Option (List ℕ) → Type 0
    → Option (List ℕ) → Option (List ℕ) → Type 0
IsCutShort left unwritten old new unsaid said says =
    (fault : RunFault) × StreamsAfter fault left unwritten old new
    × AddsOrFails unsaid said says (run_fault_text fault ++ codes "\n")

-- What is told of a fault, as a text.
use Rattle.std.proofs.Common.{◌≡◌, ◌∙◌, ◌++◌, List, ℕ, Option, Some, None, [], ap, false, string_bytes}
use Rattle.std.specs.Prelude.{IfSome, is_none, option_map}
use Rattle.nextest_config_values.specs.Read.{fault_text, kind_text, path_text, Reason, reason_of, reason_text, TellsAs, read_fault_at, ReadFaultView, read_fault_with}
use Rattle.nextest_config_values.specs.Read.Fault.{Fault}
use Rattle.nextest_config_values.specs.Read.Text.{FaultOrMemory, text_or_memory}
use Rattle.nextest_config_values.specs.declared.read.fault.ReadFault.{ReadFault}
use Rattle.nextest_config_profiles.specs.Report.Rows.{IsMessage}

by_reason : (M : Type 0) (path : List ℕ) (reason : Option Reason) (expected : ReadFaultView) → is_none reason ≡ false
    → FaultOrMemory (option_map (read_fault_with path) reason) M (λ told. told ≡ expected)
    → path_text path ++ text_or_memory reason_text reason ≡ fault_text expected
by_reason M path None expected some same = absurd (cc some)
by_reason M path (Some reason) expected some same = ap fault_text same

pub message_by : (fault : Option Fault) (told : ReadFault) (text : List ℕ) → is_none fault ≡ false
    → IfSome fault (λ it. TellsAs (read_fault_at [] it) told) → is_none (reason_of told.kind) ≡ false
    → text ≡ path_text (string_bytes told.path) ++ kind_text told.kind → IsMessage fault text
message_by None told text some tells kind printed = absurd (cc some)
message_by (Some fault) told text some tells kind printed =
    printed ∙ by_reason _ (string_bytes told.path) (reason_of told.kind) (read_fault_at [] fault) kind tells

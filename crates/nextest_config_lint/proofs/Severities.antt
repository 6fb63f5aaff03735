-- How grave findings are.
use Rattle.std.proofs.Common.{◌≡◌, List, map, None, Option, Some, ap, option_map, sym}
use Rattle.toml_spans.specs.Step.{PathStep, step_of}
use Rattle.nextest_config_lint.specs.Finding.{reported_severity, finding_severity}
use Rattle.nextest_config_lint.specs.Found.{Found, found_at, FoundKind, found_of, found_severity, kind_view}
use Rattle.nextest_config_lint.specs.declared.finding.Finding.{Finding}

pub reported_kind : (path : List PathStep) (reported : Option FoundKind) (found : Found) → option_map (found_at path) reported ≡ Some found → reported ≡ Some found.kind
reported_kind path None found is = ap (option_map (λ (f : Found). f.kind)) is
reported_kind path (Some kind) found is = ap (option_map (λ (f : Found). f.kind)) is

pub reported_path : (path : List PathStep) (reported : Option FoundKind) (found : Found) → option_map (found_at path) reported ≡ Some found → found.path ≡ path
reported_path path None found is = cc is
reported_path path (Some kind) found is = let same : found_at path kind ≡ found = cc is in ap (λ (f : Found). f.path) (sym same)

-- a finding is as grave as what it tells
pub severity_reported : (finding : Finding) (found : Found) → found_of finding ≡ Some found → finding_severity finding.kind ≡ found_severity found.kind
severity_reported finding found is = ap reported_severity (reported_kind (map step_of finding.path.items) (kind_view finding.kind) found is)

use Rattle.std.proofs.Common.{◌≡◌, ◌++◌, map, rules}
use Rattle.std.proofs.lemmas.List.{map-append}
use Rattle.nextest_config_values.specs.Read.{cause_of}
use Rattle.toml_spans.specs.Step.{step_of}
use Rattle.nextest_config_lint.specs.Settings.{setting_view}
use Rattle.nextest_config_lint.proofs.FoundKinds.{refused_reported}
use Rattle.nextest_config_lint.proofs.faults.refused_at.Goals as goal

pub returns : goal.returns
returns c =
    let whole : map step_of c.append.new.self.items ≡ (setting_view c.args.setting.now).path ++ map step_of c.args.fault.steps.items = search (rules, map-append) in
    refused_reported (setting_view c.args.setting.now) (map step_of c.args.fault.steps.items) _ (cause_of c.args.fault.cause) _ _ _
    c.severity_of-severity.ensures c.in_ok-hint.ensures whole (rw c.as_slice.ensures.value at c.in_ok-kind_at.ensures)

use Rattle.std.proofs.Common.{map, subst, subst₂, sym}
use mathlib.Core.List.{map-map}
use Rattle.std.proofs.lemmas.Result.{IfOk-weaker}
use Rattle.semver.specs.Identifiers.{parts_of}
use Rattle.nextest_config.specs.NextestVersion.{given_of, under, configuration_of, IsRefusalOf, SelectsFor, StandsFor, verdict}
use Rattle.nextest_config.specs.declared.merge.PieceRefusal.TheVariants as refusals
use Rattle.nextest_config_check.specs.Report.{IsReport, read_list, refused_list}
use Rattle.nextest_config.proofs.Refusals.{text_of_told}
use Rattle.nextest_config_check.proofs.report.report_on_sources.Goals as goal

pub returns-in-Ok : goal.returns-in-Ok
returns-in-Ok c =
    let listed = sym (map-map (under c.args.edition) given_of c.args.sources.now) in
    let configuration = configuration_of c.in-Ok.config in
    let current = parts_of c.args.current.now in
    let overridden = c.args.override_version_check in
    let selected = subst (λ read. SelectsFor read configuration.roles) listed c.in-Ok.ensures.read.selected in
    let stands = subst (λ read. StandsFor read configuration) listed c.in-Ok.ensures.read.stands in
    IfOk-weaker c.report_on_read.result _ _ (λ report is_report input text blocks. subst₂ (IsReport input current overridden c.args.edition) (sym is_report.text) (sym is_report.outcome)
    (read_list (map given_of c.args.sources.now) (verdict configuration.roles current overridden) configuration text blocks (selected.0, selected.1, selected.2 current overridden) stands))
    c.report_on_read.ensures

pub returns-in_ok-format-in-Err-Refused : goal.returns-in_ok-format-in-Err-Refused
returns-in_ok-format-in-Err-Refused c = λ input text blocks.
    let listed = sym (map-map (under c.args.edition) given_of c.args.sources.now) in
    let refused = subst (λ read. IsRefusalOf read (refusals.Refused c.in-Err-Refused.position c.in-Err-Refused.error)) listed (rw c.in-Err-Refused.field-0-is at c.in-Err-Refused.ensures.refused.refused) in
    let prints = text_of_told c.in-Err-Refused.error refused.0 refused.1 in
    rw (c.refused.ensures, c.in_ok-format-in-Err-Refused.ensures.ok, prints)
    (refused_list (map given_of c.args.sources.now) c.in-Err-Refused.position refused.0 text blocks refused.2)

use Rattle.std.proofs.Common.{◌≡◌, ◌++◌, ◌∷◌, [], IsSome, List, map, None, Option, option_map, option_to_list, refl, rules, Some}
use Rattle.std.proofs.lemmas.List.{map-append}
use Rattle.toml_spans.specs.Step.{PathStep, step_of}
use Rattle.nextest_config_lint.specs.Found.{found_at, FoundKind, found_of, kind_view, ReportsIfAny}
use Rattle.nextest_config_lint.specs.References.{IsSubjectReported, steps_to, placed_below}
use Rattle.nextest_config_lint.specs.References.JudgedFile.{judged_in}
use Rattle.nextest_config_lint.specs.Settings.{setting_view}
use Rattle.nextest_config_lint.specs.declared.finding.Finding.{Finding}
use Rattle.nextest_config_lint.proofs.references.add_reference.Goals as goal

pushed_reported : (path : List PathStep) (reported : Option FoundKind) (old new : List Finding) (finding : Finding) → IsSome reported → new ≡ old ++ (finding ∷ [])
    → found_of finding ≡ option_map (placed_below path) reported → map found_of new ≡ map found_of old ++ map Some (option_to_list (option_map (placed_below path) reported))
pushed_reported path None old new finding some pushed is = absurd (cc some)
pushed_reported path (Some kind) old new finding some pushed is = rw (pushed, map-append found_of old (finding ∷ []), is) refl

placed_by : (path : List PathStep) (kind : Option FoundKind) (steps : List PathStep) → ((reported : FoundKind) → kind ≡ Some reported → steps ≡ path ++ steps_to reported)
    → option_map (found_at steps) kind ≡ option_map (placed_below path) kind
placed_by path None steps is = refl
placed_by path (Some reported) steps is = rw (is reported refl) refl

-- a finding at the path to where its kind is told of a path
placed : (path : List PathStep) (finding : Finding) → ((reported : FoundKind) → kind_view finding.kind ≡ Some reported → map step_of finding.path.items ≡ path ++ steps_to reported)
    → found_of finding ≡ option_map (placed_below path) (kind_view finding.kind)
placed path finding is = placed_by path (kind_view finding.kind) (map step_of finding.path.items) is

pub returns-in_ok-push-in-Some : goal.returns-in_ok-push-in-Some
returns-in_ok-push-in-Some c files members by =
    let setting = setting_view c.args.setting.now in
    let reported : IsSubjectReported (judged_in files members c.args.file.now) setting.path setting.subject (kind_view c.in-Some.kind) =
    rw c.in-Some.is at (c.in_ok-kind.ensures.reported files members by) in
    let some : ReportsIfAny (Some c.in-Some.kind) = rw c.in-Some.is at c.in_ok-kind.ensures.reports in
    let finding : Finding = record { path = c.in_ok-path-in-Some.path; kind = c.in-Some.kind } in
    let path_is : (reported : FoundKind) → kind_view c.in-Some.kind ≡ Some reported → map step_of c.in_ok-path-in-Some.path.items ≡ setting.path ++ steps_to reported = c.in_ok-path-in-Some.ensures in (
      option_map (placed_below setting.path) (kind_view c.in-Some.kind),
      (kind_view c.in-Some.kind, reported, refl),
      pushed_reported setting.path (kind_view c.in-Some.kind) c.args.findings.now.items _ finding some (search rules) (placed setting.path finding path_is),
    )

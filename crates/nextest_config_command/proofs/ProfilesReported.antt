-- What is reported of profiles, and of files for which nothing is.
use Rattle.std.proofs.Common.{◌≡◌, ◌++◌, ◌∙◌, ℕ, List, [], codes, MatchOption, Option, Some, None, string_bytes, sym, ap, arith}
use Rattle.std.specs.Prelude.{◌<◌, ◌≤◌, false}
use Rattle.nextest_config.specs.declared.nextest_version.edition.Edition.{Edition}
use Rattle.nextest_config_profiles.specs.Chain.{IsWrong, Wrong}
use Rattle.nextest_config_profiles.specs.Layer.{all_layers}
use Rattle.nextest_config_profiles.specs.declared.layer.Layer.{Layer}
use Rattle.nextest_config_output.specs.declared.findings.summary.Summary.{Summary}
use Rattle.nextest_config_report.specs.declared.exit_status.ExitStatus.TheVariants.{Refused}
use Rattle.nextest_config_command.specs.Answer.{AnswerView, judging, says}
use Rattle.nextest_config_command.specs.FileFindings.{AreFound, FileFound}
use Rattle.nextest_config_command.specs.Found.{FilesRead}
use Rattle.nextest_config_command.specs.Lint.{summary_of}
use Rattle.nextest_config_command.specs.Printed.{for_people}
use Rattle.nextest_config_command.specs.Profile.{AreSound, IsAnsweredBy, IsRefusedFor, IsWrongReported, without}
use Rattle.nextest_config_command.specs.declared.request.ProfileTask.{ProfileTask}
use Rattle.nextest_config_command.proofs.LintStatus.{counts_none}

-- ---- whether a file has an error, by what is counted

pub errors_refuse : (edition : Edition) (files : FilesRead) (found : List FileFound) (summary : Summary) → AreFound (judging edition [] false) files found → summary ≡ summary_of found
    → 0 < summary.errors → AreSound edition files → ⊥
errors_refuse edition files found summary are is some sound =
    let none : summary.errors ≡ 0 = ap (λ s. s.errors) is ∙ (counts_none edition files found are).1 sound in
    absurd (omega (arith, some, none))

pub no_error_passes : (edition : Edition) (files : FilesRead) (found : List FileFound) (summary : Summary) → AreFound (judging edition [] false) files found → summary ≡ summary_of found
    → summary.errors ≤ 0 → AreSound edition files
no_error_passes edition files found summary are is none =
    let zero : summary.errors ≡ 0 = omega (arith, none) in
    let same : (summary_of found).errors ≡ summary.errors = ap (λ s. s.errors) (sym is) in
    (counts_none edition files found are).0 (same ∙ zero)

-- ---- a profile without settings

module _ (layers : List Layer) (name : List ℕ) (answer : AnswerView) where
  pub refused_for : (found : Option Wrong) (said : List ℕ) → MatchOption found ⊥ (λ wrong. IsWrongReported layers name wrong said) → answer ≡ says (for_people (said ++ codes "\n")) Refused
      → MatchOption found ⊥ (λ wrong. IsRefusedFor layers name wrong answer)
  refused_for (Some wrong) said reported is = (said, reported, is)
  refused_for None said reported is = reported

pub answered_without : (layers : List Layer) (task : ProfileTask) (answer : AnswerView) (found : Option Wrong) → MatchOption found (Unit {0}) (IsWrong (all_layers layers) (string_bytes task.name))
    → MatchOption found ⊥ (λ wrong. IsRefusedFor layers (string_bytes task.name) wrong answer) → IsAnsweredBy layers task answer
answered_without layers task answer (Some wrong) is refused = without wrong is refused
answered_without layers task answer None is none = absurd none

-- Verdicts that are reported as findings.
use Rattle.std.proofs.Common.{ℕ, List}
use Rattle.nextest_config.specs.NextestVersion.{Shortfall, verdict_in}
use Rattle.nextest_config.specs.declared.nextest_version.verdict.VersionRole.{VersionRole}
use Rattle.nextest_config.specs.declared.nextest_version.verdict.VersionRole.TheVariants.{Recommended, Required}
use Rattle.nextest_config_output.specs.declared.findings.format.Format.{Format}
use Rattle.nextest_config_command.specs.Files.{File}
use Rattle.nextest_config_command.specs.Verdict.{IsShortfallReported, IsVerdictFinding}

-- an unmet version that is reported tells the verdict
pub verdict_reported : (format : Format) (files : List File) (role : VersionRole) (s : Shortfall) (text : List ℕ) → IsShortfallReported format files role s text → IsVerdictFinding format files (verdict_in role s) text
verdict_reported format files Required s text reported = reported
verdict_reported format files Recommended s text reported = reported

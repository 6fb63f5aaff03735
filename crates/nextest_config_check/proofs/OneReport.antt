-- An input has one report.
use Rattle.std.proofs.Common.{◌≡◌, ℕ, Bool, List, map, refl, ap}
use Rattle.semver.specs.Parse.{Parts}
use Rattle.nextest_config.specs.NextestVersion.{Configuration, IsFirstRefused, Refusal, StandsFor}
use Rattle.nextest_config.specs.NextestVersion.Source.{Given, under}
use Rattle.nextest_config.proofs.OneConfiguration.{configuration_once}
use Rattle.nextest_config.proofs.OneRefusal.{refusal_once}
use Rattle.nextest_config.proofs.OneVerdict.{verdict_once}
use Rattle.nextest_config.proofs.Readings.{reads_not_refused}
use Rattle.nextest_config.specs.declared.nextest_version.edition.Edition.{Edition}
use Rattle.nextest_config_check.specs.Layout.{AreBlocks}
use Rattle.nextest_config_check.specs.Report.{IsReport, faulty_line, not_text, outcome_of, read_list, refused_list}
use Rattle.nextest_config_check.specs.declared.report.Outcome.{Outcome}
use Rattle.nextest_config_check.proofs.Layouts.{blocks_or_line, line_once, sources_once}

module _ (input : List ℕ) (current : Parts) (overridden : Bool) (edition : Edition) where
  refused_or_read : (a b : List Given) (i : ℕ) (refusal : Refusal) (c : Configuration) → AreBlocks a input → AreBlocks b input → IsFirstRefused (map (under edition) a) i refusal → StandsFor (map (under edition) b) c → ⊥
  refused_or_read a b i refusal c laid other refused (asked, read, stands) =
      reads_not_refused (map (under edition) b) i refusal (asked, read) (rw (sources_once input a b laid other) at refused)

  pub report_once : (text other : List ℕ) (outcome another : Outcome) → IsReport input current overridden edition text outcome → IsReport input current overridden edition other another → (text ≡ other) × (outcome ≡ another)
  report_once text other outcome another (not_text isnt) (not_text also) = (refl, refl)
  report_once text other outcome another (not_text isnt) (faulty_line n is faulty) = absurd (isnt is)
  report_once text other outcome another (not_text isnt) (refused_list s i r is laid refused) = absurd (isnt is)
  report_once text other outcome another (not_text isnt) (read_list s v c is laid selected stands) = absurd (isnt is)
  report_once text other outcome another (faulty_line n is faulty) (not_text isnt) = absurd (isnt is)
  report_once text other outcome another (faulty_line n is faulty) (faulty_line m also too) = (rw (line_once input n m faulty too) refl, refl)
  report_once text other outcome another (faulty_line n is faulty) (refused_list s i r also laid refused) = absurd (blocks_or_line input s n laid faulty)
  report_once text other outcome another (faulty_line n is faulty) (read_list s v c also laid selected stands) = absurd (blocks_or_line input s n laid faulty)
  report_once text other outcome another (refused_list s i r is laid refused) (not_text isnt) = absurd (isnt is)
  report_once text other outcome another (refused_list s i r is laid refused) (faulty_line n also faulty) = absurd (blocks_or_line input s n laid faulty)
  report_once text other outcome another (refused_list s i r is laid refused) (refused_list t k q also laid_too refused_too) =
      let one = refusal_once (map (under edition) t) i k r q (rw (sources_once input s t laid laid_too) at refused) refused_too in
      (rw (one.0, one.1) refl, refl)
  report_once text other outcome another (refused_list s i r is laid refused) (read_list t v c also laid_too selected stands) = absurd (refused_or_read s t i r c laid laid_too refused stands)
  report_once text other outcome another (read_list s v c is laid selected stands) (not_text isnt) = absurd (isnt is)
  report_once text other outcome another (read_list s v c is laid selected stands) (faulty_line n also faulty) = absurd (blocks_or_line input s n laid faulty)
  report_once text other outcome another (read_list s v c is laid selected stands) (refused_list t i r also laid_too refused) = absurd (refused_or_read t s i r c laid_too laid refused stands)
  report_once text other outcome another (read_list s v c is laid selected stands) (read_list t w d also laid_too selected_too stands_too) =
      let same : s ≡ t = sources_once input s t laid laid_too in
      let verdict : v ≡ w = verdict_once (map (under edition) t) current overridden v w (rw same at selected) selected_too in
      let configuration : c ≡ d = configuration_once (map (under edition) t) c d (rw same at stands) stands_too in
      (rw (verdict, configuration) refl, ap outcome_of verdict)

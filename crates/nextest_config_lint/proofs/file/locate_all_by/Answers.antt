use Rattle.std.proofs.Common.{◌≡◌, [], ◌∷◌, ◌++◌, rules}
use Rattle.nextest_config.proofs.Lists.{zip_push}
use Rattle.nextest_config_lint.specs.File.{IsLocated}
use Rattle.nextest_config_lint.specs.declared.file.LocatedFinding.{LocatedFinding}
use Rattle.nextest_config_lint.proofs.file.locate_all_by.Goals as goal

pub loop-finding-preserved : goal.loop-finding-preserved
loop-finding-preserved c =
    let one : LocatedFinding = record { span = c.in_ok-span.span; finding = c.in-Some.finding } in
    let pushed : c.push.new.self.items ≡ c.loop-finding.located.items ++ (one ∷ []) = search rules in
    rw pushed (zip_push (IsLocated c.args.file.text.now) _ _ c.in-Some.finding one c.loop-finding.invariant
    (λ found reported. record { reported = reported; index = c.args.file.index.now; of_text = c.requires.file.of_text; at_range = c.in_ok-span.ensures found reported }))

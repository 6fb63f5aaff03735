use Rattle.std.proofs.lemmas.Result.{IfOk-weaker}
use Rattle.nextest_config_command.proofs.parsed_file.ParsedFile.located.Goals as goal

pub returns : goal.returns
returns c = rw (← c.self.view_is) (IfOk-weaker c.located.result _ _ (λ located are list defined. are _ list c.self.invariant defined) c.located.ensures)

use Rattle.std.proofs.Common.{refl}
use Rattle.nextest_config_command.proofs.parsed_file.ParsedFile.listed.Goals as goal

pub returns : goal.returns
returns c = rw (← c.self.view_is) (record { kind = refl; document = c.document.ensures _ c.self.invariant })

use Rattle.nextest_config_lint.proofs.file.located.Goals as goal

pub located-requires : goal.located-requires
located-requires c = record { read = (c.args.contents.now, c.in_ok-read.ensures); defined = c.requires }

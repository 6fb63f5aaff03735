use Rattle.nextest_config_bench.proofs.files.in_file.Goals as goal

pub located-requires-clause-read : goal.located-requires-clause-read
located-requires-clause-read c = (c.args.contents.now, c.in_ok-read.ensures)

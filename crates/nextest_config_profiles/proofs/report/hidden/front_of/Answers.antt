use Rattle.std.proofs.lemmas.List.{take-map}
use Rattle.nextest_config_profiles.proofs.report.hidden.front_of.Goals as goal

pub returns-then-depth-keys : goal.returns-then-depth-keys
returns-then-depth-keys c = rw (take-map (λ word. word.now) c.args.depth c.args.keys.now) c.copy_of.ensures

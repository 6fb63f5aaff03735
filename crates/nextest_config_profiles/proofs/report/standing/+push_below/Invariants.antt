use Rattle.nextest_config_profiles.proofs.report.standing.+push_below.Given as goal

abbrev pub decreases-push_below : goal.decreases-push_below
decreases-push_below l = l.layers

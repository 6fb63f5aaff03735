use Rattle.std.proofs.Common.{◌≡◌, [], ◌∷◌, ◌++◌, refl, rules}
use Rattle.std.proofs.lemmas.List.{map_push}
use Rattle.toml_spans.specs.Step.{step_of}
use Rattle.nextest_config_lint.proofs.features.path_to.Goals as goal

pub returns : goal.returns
returns c =
    let pushed : c.push.new.self.items ≡ c.in_ok-path.path.items ++ (c.in_ok-step.step ∷ []) = search rules in
    (step_of c.in_ok-step.step, c.in_ok-step.ensures, rw (pushed, map_push, c.in_ok-path.ensures) refl)

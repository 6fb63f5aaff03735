use Rattle.std.proofs.Common.{◌≡◌, ◌∙◌, ◌++◌, ◌∷◌, [], ℕ, List, ap, append-nil, append_assoc, length, map, string_bytes, take}
use Rattle.std.proofs.lemmas.Grind.{flat_map-append}
use Rattle.std.specs.Prelude.{flat_map}
use Rattle.std.proofs.lemmas.List.{map_push, take_more}
use Rattle.nextest_config_profiles.specs.Profile.{layers_in}
use Rattle.nextest_config_profiles.specs.Reach.{words_of}
use Rattle.nextest_config_profiles.specs.Report.Standing.{hidden_below, standing_of, StandingValue}
use Rattle.nextest_config_profiles.proofs.report.standing.hidden.Goals as goal

pub loop-other-preserved : goal.loop-other-preserved
loop-other-preserved c =
    let layers = layers_in c.args.effective.now in
    let rest = c.behind-rest.result.now in
    let i = c.loop-other.other-index in
    let item = c.other-item.result in
    let f : List ℕ → List StandingValue = λ other. hidden_below layers other (words_of c.args.keys.now) (length layers) in
    let more : map standing_of c.push_below-in-loop-other.new.standings.items ≡ map standing_of c.loop-other.hidden.items ++ f (string_bytes item) =
    rw (c.as_str.ensures.value, c.layer_count-layers.ensures) at c.in_ok-push_below-2.ensures in
    rw (
      take_more rest i item c.loop-other-test.true,
      ← c.other-item.is,
      map_push string_bytes (take i rest) item,
      flat_map-append f (map string_bytes (take i rest)) (string_bytes item ∷ []),
      append-nil (f (string_bytes item)),
    )
    (more ∙ ap (λ front. front ++ f (string_bytes item)) c.loop-other.invariant ∙ append_assoc (hidden_below layers c.args.profile.now (words_of c.args.keys.now) c.args.layer) (flat_map f (map string_bytes (take i rest))) (f (string_bytes item)))

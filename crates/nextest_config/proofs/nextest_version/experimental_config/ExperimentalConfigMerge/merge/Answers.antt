use Rattle.std.proofs.Common.{◌++◌, map, ap, ◌∙◌}
use Rattle.std.proofs.lemmas.List.{map-append}
use Rattle.nextest_config.specs.NextestVersion.{place_of, experimental_of, unknown_of}
use Rattle.nextest_config.proofs.Orders.{seen_joined}
use Rattle.nextest_config.proofs.SourceOrders.{copies_equal}
use Rattle.nextest_config.proofs.nextest_version.experimental_config.ExperimentalConfigMerge.merge.Goals as goal

pub returns-clause-joined : goal.returns-clause-joined
returns-clause-joined c =
    let earlier = c.args.self.now in
    let later = c.args.later.now in
    let entries = ap (map unknown_of) c.in_ok-append.ensures.items ∙ map-append unknown_of earlier.unknown.items later.unknown.items in
    let both = c.in_ok-append-2.ensures.items ∙ ap (λ sources. sources ++ later.array_sources.items) c.reserve.ensures.items in
    let arrays = ap (map place_of) both ∙ map-append place_of earlier.array_sources.items later.array_sources.items in
    seen_joined (experimental_of earlier) (experimental_of later) (record { known = c.in_ok-known.known.keys; unknown = _; arrays = _ }) (c.in_ok-known.ensures.4 copies_equal) entries arrays

use Rattle.std.proofs.Common.{◌≡◌, ◌∙◌, map, rules, string_bytes, sym, ap}
use Rattle.std.proofs.lemmas.Map.Iter.{iter_end}
use Rattle.std.proofs.lemmas.Simd.{map-map}
use Rattle.std.specs.Map.Iter.{deref}
use Rattle.serde_json.specs.Data.{string}
use Rattle.nextest_config_report.proofs.Values.{array_view}
use Rattle.nextest_config_report.proofs.show.names_value.Goals as goal

pub returns : goal.returns
returns c =
    let all : map deref c.loop-name.yielded ≡ c.args.names.now.keys = search (rules, iter_end) in
    let texts = sym (map-map string_bytes deref c.loop-name.yielded) ∙ ap (map string_bytes) all in
    array_view string (λ name. string_bytes name.now) c.loop-name.yielded _ c.loop-name.values c.loop-name.invariant texts

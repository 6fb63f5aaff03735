use Rattle.std.proofs.Common.{◌≡◌, ◌++◌, ap, map, string_bytes, subst, ◌∙◌}
use Rattle.toml.specs.View.{view}
use Rattle.nextest_config_profiles.specs.LastValue.{IsLastValue}
use Rattle.nextest_config_profiles.specs.Reach.{layers_of, words_of}
use Rattle.nextest_config_profiles.specs.Said.{said_at}
use Rattle.nextest_config_profiles.proofs.Listing.{by_last, not_nothing}
use Rattle.nextest_config_profiles.proofs.leaves.layer_of.Goals as goal

pub unreachable-requires : goal.unreachable-requires
unreachable-requires c =
    let path : words_of c.as_slice-2.result.now ≡ words_of c.args.path.now ++ map string_bytes c.args.leaf.now.keys.items =
    ap words_of c.as_slice-2.ensures.value ∙ c.in_ok-whole.ensures ∙ ap (λ keys. words_of c.args.path.now ++ map string_bytes keys) c.as_slice.ensures.value in
    let last = subst (λ path. IsLastValue (map (said_at path) (layers_of c.args.layers)) c.last_value.result) path c.last_value.ensures in
    not_nothing _ c.requires.0 (view c.args.leaf.now.value) (rw c.in-None.is at last) c.requires.1

pub returns : goal.returns
returns c =
    let path : words_of c.as_slice-2.result.now ≡ words_of c.args.path.now ++ map string_bytes c.args.leaf.now.keys.items =
    ap words_of c.as_slice-2.ensures.value ∙ c.in_ok-whole.ensures ∙ ap (λ keys. words_of c.args.path.now ++ map string_bytes keys) c.as_slice.ensures.value in
    let last = subst (λ path. IsLastValue (map (said_at path) (layers_of c.args.layers)) c.last_value.result) path c.last_value.ensures in
    by_last _ c.requires.0 c.in-Some.last.layer (view c.args.leaf.now.value) (view c.in-Some.last.value.now) c.requires.1 (rw c.in-Some.is at last)

use mathlib.Core.Logic.Iff as iff
use Rattle.std.proofs.Common.{◌≡◌, ◌++◌, ◌∙◌, ap, map, rules, sym}
use Rattle.std.proofs.lemmas.List.{map-append}
use Rattle.std.proofs.lemmas.Map.Iter.{iter_end}
use Rattle.std.proofs.lemmas.Simd.{map-map}
use Rattle.std.specs.List.{filter}
use Rattle.std.specs.Map.Iter.{deref}
use Rattle.nextest_config_profiles.specs.Layer.{profiles_in}
use Rattle.nextest_config_profiles.specs.Reach.{lent_files, words_of}
use Rattle.nextest_config_profiles.proofs.NamesInOrder.{are_names, dropped, is_other, kept, lent_text, names_in_order, nothing_below, own_names}
use Rattle.nextest_config_profiles.proofs.name_list.profile_names.Goals as goal

pub loop-name-preserved-in-Continue-branch-5 : goal.loop-name-preserved-in-Continue-branch-5
loop-name-preserved-in-Continue-branch-5 c =
    kept own_names is_other c.loop-name.yielded c.in-Some.name _ _ c.loop-name.invariant (search rules) (search (rules, map-append))

pub loop-name-preserved : goal.loop-name-preserved
loop-name-preserved c =
    dropped own_names is_other c.loop-name.yielded c.in-Some.name _ c.loop-name.invariant (search rules)

pub returns-clause-names : goal.returns-clause-names
returns-clause-names c =
    let ended = iter_end deref c.in_ok-all.all.keys c.loop-name.yielded _ _ _ _ c.into_iter-name-iterator.ensures.into_iter_gives.0 c.loop-name.yielded_by c.in-None.is c.next.ensures.steps in
    let words : map lent_text c.loop-name.yielded ≡ words_of c.in_ok-all.all.keys = sym (map-map (λ word. word.now) deref c.loop-name.yielded) ∙ ap words_of ended.0 in
    let whole : words_of c.loop-name.names.items ≡ own_names ++ filter is_other (words_of c.in_ok-all.all.keys) = c.loop-name.invariant ∙ ap (λ words. own_names ++ filter is_other words) words in
    let files : lent_files c.as_slice.result.now ≡ profiles_in c.args.layers.now = ap lent_files c.as_slice.ensures.value ∙ c.in_ok-profiles.ensures in
    rw (whole, ← files) (are_names (lent_files c.as_slice.result.now) c.in_ok-all.all.keys (λ name. iff.trans (c.in_ok-all.ensures name) (nothing_below (lent_files c.as_slice.result.now) name)))

pub returns-clause-order : goal.returns-clause-order
returns-clause-order c =
    let ended = iter_end deref c.in_ok-all.all.keys c.loop-name.yielded _ _ _ _ c.into_iter-name-iterator.ensures.into_iter_gives.0 c.loop-name.yielded_by c.in-None.is c.next.ensures.steps in
    let words : map lent_text c.loop-name.yielded ≡ words_of c.in_ok-all.all.keys = sym (map-map (λ word. word.now) deref c.loop-name.yielded) ∙ ap words_of ended.0 in
    let whole : words_of c.loop-name.names.items ≡ own_names ++ filter is_other (words_of c.in_ok-all.all.keys) = c.loop-name.invariant ∙ ap (λ words. own_names ++ filter is_other words) words in
    rw whole (names_in_order c.in_ok-all.all.keys c.into_iter-name-iterator.ensures.into_iter_gives.4)

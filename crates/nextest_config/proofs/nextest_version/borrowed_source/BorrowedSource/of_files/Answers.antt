use Rattle.std.proofs.Common.{◌∷◌, [], map, reverse, refl, subst}
use Rattle.std.proofs.lemmas.Iterator.Adapters.{YieldsList-from_rev_slice}
use Rattle.std.proofs.lemmas.Iterator.Consumers.{YieldsList-at, YieldsList-end}
use Rattle.std.proofs.lemmas.List.{map-append}
use Rattle.nextest_config.proofs.Lists.{zip_push}
use Rattle.nextest_config.specs.NextestVersion.{repository_given, tool_given, AreGivenAs, IsGivenAs}
use Rattle.nextest_config.proofs.nextest_version.borrowed_source.BorrowedSource.of_files.Goals as goal

pub loop-tool-preserved : goal.loop-tool-preserved
loop-tool-preserved c =
    rw (c.in_ok-push.ensures.items, map-append (λ tool. tool.now) c.loop-tool.yielded (c.in-Some.tool ∷ []), map-append tool_given (map (λ tool. tool.now) c.loop-tool.yielded) (c.in-Some.tool.now ∷ []))
    (zip_push IsGivenAs (map tool_given (map (λ tool. tool.now) c.loop-tool.yielded)) c.loop-tool.files.items (tool_given c.in-Some.tool.now) _ c.loop-tool.invariant refl)

pub returns : goal.returns
returns c =
    let seen = YieldsList-end (YieldsList-at c.into_iter-tool-iterator.ensures.into_iter_gives (YieldsList-from_rev_slice c.args.tools.now cc)) c.loop-tool.yielded _ c.loop-tool.yielded_by _ _ c.in-None.is c.next.ensures.steps in
    let files = subst (λ tools. AreGivenAs (map tool_given tools) c.loop-tool.files.items) seen.0 c.loop-tool.invariant in
    rw c.in_ok-push-2.ensures.items (zip_push IsGivenAs (map tool_given (reverse c.args.tools.now)) c.loop-tool.files.items (repository_given c.args.repository.now) _ files refl)

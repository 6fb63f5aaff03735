-- Each block adds its source; a faulty one is the first line that is no source line where one has to be.
use Rattle.std.proofs.Common.{◌≡◌, [], ◌∷◌, ◌++◌, map, rules}
use Rattle.std.proofs.lemmas.List.{map_push}
use Rattle.nextest_config.specs.NextestVersion.{given_of}
use Rattle.nextest_config_check.proofs.Blocks.{faulty_line, sources_before-push}
use Rattle.nextest_config_check.proofs.layout.sources.Goals as goal

pub returns-in-None-clause-faulty : goal.returns-in-None-clause-faulty
returns-in-None-clause-faulty c =
    faulty_line c.args.input.now c.loop-rest.rest.now c.split_block.result.0.now c.split_block.result.1.now (map given_of c.loop-rest.sources.items) c.line_number.result
    c.loop-rest.invariant.before (search rules) c.split_block.ensures (rw c.in-None.is at c.in_ok-source.ensures) c.line_number.ensures

pub loop-rest-preserved : goal.loop-rest-preserved
loop-rest-preserved c =
    let items : c.push.new.self.items ≡ c.loop-rest.sources.items ++ (c.in-Some.source ∷ []) = search rules in
    let before = sources_before-push c.args.input.now c.loop-rest.rest.now c.split_block.result.0.now c.split_block.result.1.now (map given_of c.loop-rest.sources.items) (given_of c.in-Some.source)
    c.loop-rest.invariant.before (search rules) c.split_block.ensures (rw c.in-Some.is at c.in_ok-source.ensures) in
    record { text = search rules; before = rw (items, map_push given_of c.loop-rest.sources.items c.in-Some.source) before }

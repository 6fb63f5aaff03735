use Rattle.std.proofs.Common.{◌≡◌, ◌∷◌, ◌++◌, [], Bor, List, Option, ap, map, sym, take, ◌∙◌}
use Rattle.std.proofs.lemmas.List.{map_push, take_more}
use Rattle.toml.specs.Data.{Data}
use Rattle.toml.specs.declared.value.Value.{Value}
use Rattle.nextest_config_profiles.specs.Reach.{lent, lent_files, said_below, words_of}
use Rattle.nextest_config_profiles.specs.Said.{Said, said_at}
use Rattle.nextest_config_profiles.specs.declared.reach.Reach.{Reach}
use Rattle.nextest_config_profiles.proofs.MergedOver.{says_more}
use Rattle.nextest_config_profiles.proofs.reach.reached_at.Goals as goal

-- one file more
one_more_reached : (says : Option Data → Said) (reads : Reach → Said) (lowest : Option Data) (files : List (Option (Bor Value))) (file : Option (Bor Value)) (all : List Reach) (reach : Reach)
    → map reads all ≡ map says (lowest ∷ lent_files files) → reads reach ≡ says (lent file)
    → map reads (all ++ reach ∷ []) ≡ map says (lowest ∷ lent_files (files ++ file ∷ []))
one_more_reached says reads lowest files file all reach so_far here =
    map_push reads all reach ∙ ap (λ front. front ++ reads reach ∷ []) so_far ∙ ap (λ said. map says (lowest ∷ lent_files files) ++ said ∷ []) here
    ∙ ap (λ rest. says lowest ∷ rest) (sym (says_more says files file))

pub loop-file-preserved : goal.loop-file-preserved
loop-file-preserved c below =
    let files = c.args.layers.files.now in
    let i = c.loop-file.file-index in
    rw (c.in_ok-push-2.ensures.items, take_more files i c.file-item.result c.loop-file-test.true, ← c.file-item.is)
    (one_more_reached (said_at (words_of c.args.path.now ++ below)) (said_below below) (lent c.args.layers.defaults) (take i files) c.file-item.result c.loop-file.reached.items c.follow-in-loop-file.result
    (c.loop-file.invariant below) (c.follow-in-loop-file.ensures below))

use Rattle.std.proofs.Common.{◌≡◌, ◌++◌, ◌∷◌, [], append-nil, append_assoc, arith, map, take}
use Rattle.std.proofs.lemmas.List.{length-append, take_all, take_more}
use Rattle.nextest_config_profiles.specs.Reach.{lent, lent_files, said_below, words_of}
use Rattle.nextest_config_profiles.specs.Said.{said_at}
use Rattle.nextest_config_profiles.proofs.MergedOver.{says_long, says_more}
use Rattle.nextest_config_profiles.proofs.last_value.last_above.Goals as goal

pub loop-position-init : goal.loop-position-init
loop-position-init c all long last = rw (append-nil all) last

pub loop-position-preserved : goal.loop-position-preserved
loop-position-preserved c all long last =
    let files = c.args.files.now in
    let i = c.loop-position.position in
    let file = c.index-files-position.result in
    let says = said_at (words_of c.args.path.now) in
    let so_far = map says (lent_files (take i files)) in
    let here : said_below [] c.follow.result ≡ says (lent file) = rw append-nil at (c.follow.ensures []) in
    rw (take_more files i file c.loop-position-test.true, ← c.index-files-position.is, says_more says (take i files) file, ← here, ← append_assoc all so_far (said_below [] c.follow.result ∷ []))
    (c.later-last.ensures (all ++ so_far) (omega (arith, long, length-append all so_far, says_long says files i (omega (arith, c.loop-position-test.true)))) (c.loop-position.invariant all long last))

pub returns : goal.returns
returns c all long last =
    let says = said_at (words_of c.args.path.now) in
    rw (take_all c.loop-position.position c.args.files.now c.loop-position-test.false) at (c.loop-position.invariant all long last)

use Rattle.std.proofs.Common.{◌≡◌, ℕ, Bor, List, ◌∙◌, ap, false, option_map, rules, tests, true}
use Rattle.std.proofs.lemmas.Iterator.{first_from_find, YieldsList-from_slice}
use Rattle.std.proofs.lemmas.Iterator.Consumers.{YieldsList-at, YieldsList-from_copied}
use Rattle.nextest_config_lint.proofs.Keys.{find_seen, found_first}
use Rattle.nextest_config_lint.specs.Unknown.{pieces_of}
use Rattle.nextest_config_lint.specs.Settings.{is_known}
use Rattle.nextest_config_lint.proofs.unknown.word_with_part.Goals as goal

pub returns : goal.returns
returns c =
    let has_part = λ (word : List ℕ). is_known (pieces_of word) c.args.name.now in
    ap (option_map (λ word. word.now))
    (found_first (λ word. has_part word.now) c.args.words.now c.find.result
    (first_from_find _ _ _ (λ word. has_part word.now ≡ true) (λ word. has_part word.now ≡ false) c.find.ensures.ran
    (YieldsList-from_copied (YieldsList-at c.copied.ensures.source (YieldsList-from_slice c.args.words.now cc)))
    (λ x q k. search (rules, tests)) (λ x q k. search (rules, tests))))
    ∙ find_seen (λ (word : Bor (List ℕ)). word.now) has_part c.args.words.now

use Rattle.std.proofs.Common.{◌≡◌, ◌≢◌, ◌<◌, ℕ, List, length, MatchOption, None, Option, rules, Some, tests}
use Rattle.std.proofs.lemmas.Iterator.{first_from_find, YieldsList-from_slice}
use Rattle.std.proofs.lemmas.Iterator.Consumers.{YieldsList-at, YieldsList-from_copied}
use Rattle.std.proofs.lemmas.List.Elements.{All-from_all_within, recursion_from_All}
use Rattle.std.specs.List.{AllWithin, HoldsAt}
use Rattle.nextest_config_values.proofs.Words.{no_word}
use Rattle.nextest_config_values.specs.Read.{value_of}
use Rattle.nextest_config_cli.proofs.arguments.value_with.Goals as goal

module _ {X : Type 0} (word : X → List ℕ) (text : List ℕ) where
  found_or_none : (all : List X) → ((x : X) → value_of word all (word x) ≡ Some x) → (found : Option X)
      → MatchOption found (AllWithin (λ x. word x ≢ text) all 0 (length all)) (λ x. (word x ≡ text) × (i : ℕ) × (i < length all) × HoldsAt (λ y. y ≡ x) all i × AllWithin (λ x. word x ≢ text) all 0 i)
      → MatchOption found ((x : X) → word x ≢ text) (λ x. word x ≡ text)
  found_or_none all back None none = no_word all word text back (recursion_from_All (λ x. word x ≢ text) all (All-from_all_within (λ x. word x ≢ text) all none))
  found_or_none all back (Some x) first = first.0

pub returns : goal.returns
returns g c =
    let word = g.T.Word.word in
    let text = c.args.word.now in
    found_or_none word text g.T.Word.all g.T.Word.reads_back c.find.result
    (rw c.all.ensures at (first_from_find _ _ c.find.result (λ x. word x ≡ text) (λ x. word x ≢ text) c.find.ensures.ran
    (YieldsList-from_copied (YieldsList-at c.copied.ensures.source (YieldsList-from_slice c.all.result.now cc)))
    (λ x q k. search (rules, tests)) (λ x q k. search (rules, tests))))

use Rattle.std.proofs.Common.{◌≡◌, ℕ, List, [], ◌∷◌, ◌++◌, Bor, String, Global, map, string_bytes, refl, sym, rules}
use Rattle.std.proofs.Output.{has_written_styled_of_eq}
use Rattle.std.proofs.lemmas.Map.Iter.{iter_end}
use Rattle.std.proofs.lemmas.Simd.{map-map}
use Rattle.std.specs.Map.Iter.{deref}
use Rattle.toml_spans.proofs.Styled.{plainly, styled_more, styled_then}
use Rattle.nextest_config_values.proofs.Joined.{joined_more, separator_after, separator_more}
use Rattle.toml_spans.specs.QuotedText.{quoted_text}
use Rattle.nextest_config_values.specs.Read.{comma_list, quoted_texts}
use Rattle.nextest_config_values.proofs.read.text.QuotedTextsDisplay.fmt.Goals as goal

-- a text of the set, as it is written
abbrev quoted : Bor (String Global) → List ℕ
quoted text = quoted_text (string_bytes text.now)

one_more : (xs : List (Bor (String Global))) (x : Bor (String Global)) (separator : List ℕ) → separator ≡ separator_after xs
    → comma_list (map quoted xs) ++ (separator ++ quoted x) ≡ comma_list (map quoted (xs ++ (x ∷ [])))
one_more xs x separator is = rw is (sym (joined_more quoted xs x))

whole : (xs : List (Bor (String Global))) (keys : List (String Global)) → map deref xs ≡ keys → comma_list (map quoted xs) ≡ quoted_texts (map string_bytes keys)
whole xs keys all = rw (← all, map-map string_bytes deref xs, map-map quoted_text (λ (text : Bor (String Global)). string_bytes text.now) xs) refl

pub loop-text-preserved : goal.loop-text-preserved
unfolding lib.Utf8.encode
loop-text-preserved g c = (
  (44 ∷ 32 ∷ [], (refl, refl)),
  separator_more c.loop-text.yielded c.in-Some.text,
  λ flush. styled_more (c.loop-text.invariant.2 flush)
      (styled_then (λ so. c.in_ok-write_str.ensures.styled so refl) (rw c.as_str.ensures.value at c.in_ok-write_quoted.ensures.styled)) refl
      (one_more c.loop-text.yielded c.in-Some.text _ c.loop-text.invariant.1),
)

pub returns-clause-styled : goal.returns-clause-styled
returns-clause-styled g c flush ok =
    let all : map deref c.loop-text.yielded ≡ c.args.self.now.0.now.keys = search (rules, iter_end) in
    has_written_styled_of_eq _ _ _ _ _ (whole c.loop-text.yielded _ all) (c.loop-text.invariant.2 flush)

pub returns-clause-writes : goal.returns-clause-writes
returns-clause-writes g c p ok = plainly p (returns-clause-styled g c p.flush ok)

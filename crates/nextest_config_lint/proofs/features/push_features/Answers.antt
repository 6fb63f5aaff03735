use Rattle.std.proofs.Common.{◌≡◌, ◌∙◌, ℕ, List, [], ◌∷◌, ◌++◌, Bor, codes, map, string_bytes, refl, sym, ap, rules, append_assoc}
use Rattle.std.proofs.lemmas.Map.Iter.{iter_end}
use Rattle.std.proofs.lemmas.Simd.{map-map}
use Rattle.std.specs.Map.Iter.{deref}
use Rattle.nextest_config.specs.NextestVersion.{word_of}
use Rattle.nextest_config.specs.declared.nextest_version.experimental.ConfigExperimental.{ConfigExperimental}
use Rattle.nextest_config_values.proofs.Joined.{joined_more, separator_after, separator_more}
use Rattle.nextest_config_values.specs.Read.{comma_list}
use Rattle.nextest_config_lint.specs.Features.{feature_text}
use Rattle.nextest_config_lint.proofs.features.push_features.Goals as goal

abbrev enabled : Bor ConfigExperimental → List ℕ
enabled feature = feature_text feature.now

one_more : (text so_far separated named more separator : List ℕ) (xs : List (Bor ConfigExperimental)) (x : Bor ConfigExperimental) → separator ≡ separator_after xs → so_far ≡ text ++ comma_list (map enabled xs) → separated ≡ so_far ++ separator → more ≡ named ++ codes " = true"
    → named ≡ separated ++ word_of x.now → more ≡ text ++ comma_list (map enabled (xs ++ (x ∷ [])))
one_more text so_far separated named more separator xs x is first second fourth third =
    let both = append_assoc (text ++ comma_list (map enabled xs)) (separator_after xs) (enabled x) in
    let last = append_assoc separated (word_of x.now) (codes " = true") in
    cc (is, first, second, third, fourth, last, both, append_assoc text (comma_list (map enabled xs)) (separator_after xs ++ enabled x), joined_more enabled xs x)

pub loop-feature-preserved : goal.loop-feature-preserved
unfolding lib.Utf8.encode
loop-feature-preserved c = (
  (44 ∷ 32 ∷ [], (refl, refl)),
  separator_more c.loop-feature.yielded c.in-Some.feature,
  one_more _ _ _ _ _ _ c.loop-feature.yielded c.in-Some.feature c.loop-feature.invariant.1 c.loop-feature.invariant.2 c.in_ok-push_str.ensures.bytes c.in_ok-push_str-3.ensures.bytes (search rules),
)

pub returns : goal.returns
returns c =
    let all : map deref c.loop-feature.yielded ≡ c.args.features.now.keys = search (rules, iter_end) in
    let texts = sym (map-map feature_text deref c.loop-feature.yielded) ∙ ap (map feature_text) all in
    c.loop-feature.invariant.2 ∙ ap (λ t. string_bytes c.args.text.now ++ t) (ap comma_list texts)

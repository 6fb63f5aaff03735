use Rattle.std.proofs.Common.{◌≡◌, ◌≢◌, ◌∙◌, ℕ, List, [], ◌∷◌, ◌++◌, Bor, map, string_bytes, refl, sym, ap, rules, append_assoc}
use Rattle.std.proofs.lemmas.Map.Iter.{iter_end}
use Rattle.std.proofs.lemmas.Simd.{map-map}
use Rattle.std.specs.Map.Iter.{deref}
use Rattle.nextest_config.specs.NextestVersion.{word_of}
use Rattle.nextest_config.specs.declared.nextest_version.experimental.ConfigExperimental.{ConfigExperimental}
use Rattle.nextest_config_values.proofs.Joined.{joined_more, separator_after, separator_more}
use Rattle.nextest_config_values.specs.Read.{comma_list}
use Rattle.nextest_config_report.specs.Lines.{known_text}
use Rattle.nextest_config_report.proofs.lines.push_known.Goals as goal

abbrev word : Bor ConfigExperimental → List ℕ
word feature = word_of feature.now

one_more : (text so_far separated more separator : List ℕ) (xs : List (Bor ConfigExperimental)) (x : Bor ConfigExperimental) → separator ≡ separator_after xs → so_far ≡ text ++ comma_list (map word xs) → separated ≡ so_far ++ separator → more ≡ separated ++ word x → more ≡ text ++ comma_list (map word (xs ++ (x ∷ [])))
one_more text so_far separated more separator xs x is first second third =
    let both = append_assoc (text ++ comma_list (map word xs)) (separator_after xs) (word x) in
    cc (is, first, second, third, both, append_assoc text (comma_list (map word xs)) (separator_after xs ++ word x), joined_more word xs x)

some_known : (known : List ConfigExperimental) → known ≢ [] → comma_list (map word_of known) ≡ known_text known
some_known [] some = absurd (some refl)
some_known (feature ∷ features) some = refl

pub loop-feature-preserved : goal.loop-feature-preserved
unfolding lib.Utf8.encode
loop-feature-preserved c =
    let invariant = c.loop-feature.invariant in
    let feature = c.in-Some.feature in (
      (44 ∷ 32 ∷ [], (refl, refl)),
      separator_more c.loop-feature.yielded feature,
      one_more _ _ _ _ _ c.loop-feature.yielded feature invariant.1 invariant.2 c.in_ok-push_str.ensures.bytes (search rules),
    )

pub returns : goal.returns
returns c =
    let all : map deref c.loop-feature.yielded ≡ c.args.known.now.keys = search (rules, iter_end) in
    let words = sym (map-map word_of deref c.loop-feature.yielded) ∙ ap (map word_of) all in
    c.loop-feature.invariant.2 ∙ ap (λ t. string_bytes c.args.text.now ++ t) (ap comma_list words ∙ some_known c.args.known.now.keys (search rules))

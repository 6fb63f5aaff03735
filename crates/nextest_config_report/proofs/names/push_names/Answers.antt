use Rattle.std.proofs.Common.{◌≡◌, ℕ, List, [], ◌∷◌, ◌++◌, Bor, map, refl, ap, append_assoc, get_or, take}
use Rattle.std.proofs.lemmas.List.{take_more}
use Rattle.std.proofs.lemmas.Simd.{map-map}
use Rattle.toml_spans.specs.Step.{key_text}
use Rattle.nextest_config_values.proofs.Joined.{joined_more, separator_after, separator_more}
use Rattle.nextest_config_values.specs.Read.{comma_list}
use Rattle.nextest_config_report.specs.Names.{names_text, texts_of}
use Rattle.nextest_config_report.proofs.names.push_names.Goals as goal

abbrev printed : Bor (List ℕ) → List ℕ
printed name = key_text name.now

all_printed : (names : List (Bor (List ℕ))) → names_text (texts_of names) ≡ comma_list (map printed names)
all_printed names = ap comma_list (map-map key_text (λ (name : Bor (List ℕ)). name.now) names)

one_more : (text so_far separated more separator : List ℕ) (xs : List (Bor (List ℕ))) (x : Bor (List ℕ)) → separator ≡ separator_after xs → so_far ≡ text ++ names_text (texts_of xs) → separated ≡ so_far ++ separator → more ≡ separated ++ printed x → more ≡ text ++ names_text (texts_of (xs ++ (x ∷ [])))
one_more text so_far separated more separator xs x is first second third =
    let both = append_assoc (text ++ comma_list (map printed xs)) (separator_after xs) (printed x) in
    rw (all_printed (xs ++ (x ∷ [])))
    (cc (is, first, second, third, both, all_printed xs, append_assoc text (comma_list (map printed xs)) (separator_after xs ++ printed x), joined_more printed xs x))

pub loop-name-preserved : goal.loop-name-preserved
unfolding lib.Utf8.encode
loop-name-preserved c =
    let names = c.args.names.now in
    let i = c.loop-name.name-index in
    let none : Bor (List ℕ) = record { ref_ptr = (0, 0); now = [] } in
    let name = get_or names i none in
    rw (take_more names i none c.loop-name-test.true) (
      (44 ∷ 32 ∷ [], (refl, refl)),
      separator_more (take i names) name,
      one_more _ _ _ _ _ (take i names) name c.loop-name.invariant.1 c.loop-name.invariant.2 c.in_ok-push_str.ensures.bytes c.in_ok-write.ensures.bytes,
    )

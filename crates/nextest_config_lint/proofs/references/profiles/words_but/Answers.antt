use Rattle.std.proofs.Common.{◌≡◌, ◌∙◌, ◌<◌, ◌≤◌, ◌+◌, ℕ, suc, Bool, true, false, List, [], ◌∷◌, ◌++◌, ap, append-nil, arith, Bor, Global, length, length-append, map, rules, String, string_bytes, sym}
use mathlib.Core.List.{map-map}
use Rattle.std.proofs.lemmas.List.{length-map, map-append}
use Rattle.std.proofs.lemmas.List.Elements.{filter-append}
use Rattle.std.proofs.lemmas.Map.Iter.{iter_end, rest_more, rest_so_far}
use Rattle.std.specs.List.{filter}
use Rattle.std.specs.Map.Iter.{deref}
use Rattle.nextest_config_values.specs.Read.{words_of}
use Rattle.nextest_config_lint.proofs.Keys.{all_texts}
use Rattle.nextest_config_lint.specs.References.Profiles.{is_other}
use Rattle.nextest_config_lint.specs.References.Names.{most_names}
use Rattle.nextest_config_lint.proofs.references.profiles.words_but.Goals as goal

abbrev text_of : Bor (String Global) → List ℕ
text_of name = string_bytes name.now

kept : (p : List ℕ → Bool) (xs : List (Bor (String Global))) (x : Bor (String Global)) (words more : List (List ℕ)) → words ≡ filter p (map text_of xs) → p (text_of x) ≡ true
    → more ≡ words ++ (text_of x ∷ []) → more ≡ filter p (map text_of (xs ++ (x ∷ [])))
kept p xs x words more is so pushed = rw (map-append text_of xs (x ∷ []), filter-append p (map text_of xs) (text_of x ∷ []), so, ← is) pushed

dropped : (p : List ℕ → Bool) (xs : List (Bor (String Global))) (x : Bor (String Global)) (words : List (List ℕ)) → words ≡ filter p (map text_of xs) → p (text_of x) ≡ false
    → words ≡ filter p (map text_of (xs ++ (x ∷ [])))
dropped p xs x words is so = rw (map-append text_of xs (x ∷ []), filter-append p (map text_of xs) (text_of x ∷ []), so, append-nil (filter p (map text_of xs))) is

-- a word that is one too many
too_many : (p : List ℕ → Bool) (xs : List (Bor (String Global))) (x : Bor (String Global)) (keys after : List (String Global)) (words : List (List ℕ)) → words ≡ filter p (map text_of xs)
    → most_names ≤ length words → p (text_of x) ≡ true → keys ≡ map deref xs ++ (deref x ∷ after) → most_names < length (filter p (map string_bytes keys))
too_many p xs x keys after words is full so at =
    let later = map string_bytes after in
    let whole : map string_bytes keys ≡ map text_of xs ++ (text_of x ∷ later) =
    ap (map string_bytes) at ∙ map-append string_bytes (map deref xs) (deref x ∷ after) ∙ ap (λ front. front ++ (text_of x ∷ later)) (map-map string_bytes deref xs) in
    let more : length (filter p (map string_bytes keys)) ≡ length words + suc (length (filter p later)) =
    rw (whole, filter-append p (map text_of xs) (text_of x ∷ later), so, ← is) (length-append words (text_of x ∷ filter p later)) in
    omega (arith, more, full)

pub returns-then-len-ge-MOST_NAMES : goal.returns-then-len-ge-MOST_NAMES
returns-then-len-ge-MOST_NAMES c =
    let so_far = rest_so_far deref c.loop-name.yielded _ _ c.loop-name.yielded_by in
    let next = rest_more deref _ _ _ c.in-Some.name c.in-Some.is c.next.ensures.steps in
    too_many (is_other c.args.left_out.now) c.loop-name.yielded c.in-Some.name c.args.names.now.keys _ _ c.loop-name.invariant.0 (search (rules, length-map)) (search rules)
    (sym c.into_iter-name-iterator.ensures.into_iter_gives.0 ∙ so_far ∙ ap (λ (left : List (String Global)). map deref c.loop-name.yielded ++ left) next)

fits : (words more : List (List ℕ)) (t : List ℕ) → more ≡ words ++ (t ∷ []) → length words < most_names → length more ≤ most_names
fits words more t pushed few = let grown = ap length pushed ∙ length-append words (t ∷ []) in omega (arith, grown, few)

pub loop-name-preserved-in-Continue-1 : goal.loop-name-preserved-in-Continue-1
loop-name-preserved-in-Continue-1 c = (
  kept (is_other c.args.left_out.now) c.loop-name.yielded c.in-Some.name _ _ c.loop-name.invariant.0 (search rules) (search (rules, map-append)),
  fits (words_of c.loop-name.words.items) _ (text_of c.in-Some.name) (search (rules, map-append)) (search (rules, length-map)),
)

pub loop-name-preserved : goal.loop-name-preserved
loop-name-preserved c =
    (dropped (is_other c.args.left_out.now) c.loop-name.yielded c.in-Some.name _ c.loop-name.invariant.0 (search rules), c.loop-name.invariant.1)

pub returns : goal.returns
returns c =
    let ended = iter_end deref c.args.names.now.keys c.loop-name.yielded _ _ _ _ c.into_iter-name-iterator.ensures.into_iter_gives.0 c.loop-name.yielded_by c.in-None.is c.next.ensures.steps in
    (c.loop-name.invariant.1, c.loop-name.invariant.0 ∙ ap (filter (is_other c.args.left_out.now)) (all_texts c.args.names.now.keys c.loop-name.yielded ended.0))

-- The nearest word so far, word by word.
use Rattle.std.proofs.Common.{◌≡◌, ℕ, suc, ◌<◌, ◌≤◌, Bool, true, false, inl, List, [], ◌∷◌, ◌++◌, length, min, ◌+◌, drop, get_or, take, Option, Some, None, refl, sym, ap, ◌∙◌, ⊎_elim, append_assoc, arith, rules}
use Rattle.std.specs.Prelude.{chars}
use denote.Ref.{Bor}
use Rattle.std.proofs.lemmas.Bool.{cases_Bool}
use Rattle.std.proofs.lemmas.Int.{clamps}
use Rattle.std.proofs.lemmas.List.{drop_more, get_or_default, map-append, map_push, take-append-drop, take_more}
use Rattle.std.specs.Bool.{MatchBool}
use Rattle.std.specs.Cmp.{first_so, second_so}
use Rattle.std.specs.Cmp.Lexicographic.{pointwise}
use Rattle.std.specs.List.{AllByRecursion, AllWithin, HoldsAt, zip}
use Rattle.toml_spans.proofs.Elements.{all_always, all_joined, all_weaker, decided_all}
use Rattle.nextest_config_values.proofs.Distances.{distance_apart}
use Rattle.nextest_config_values.specs.Read.{words_of}
use Rattle.nextest_config_values.specs.NearestWord.{distance, farness, IsNear, IsNearest, IsNearestWord, is_same, most_edits}

-- ---- how far a word is

far_same : (name word : List ℕ) → is_same name word ≡ true → farness name word ≡ 0
far_same name word same = rw same refl

far_other : (name word : List ℕ) → is_same name word ≡ false → farness name word ≡ suc (distance name word)
far_other name word other = rw other refl

far_at_most : (name word : List ℕ) → farness name word ≤ suc (distance name word)
far_at_most name word = ⊎_elim (λ same. omega (arith, far_same name word same)) (λ other. omega (arith, far_other name word other)) (cases_Bool (is_same name word))

unlike : (name word : List ℕ) → ¬ IsNear name word → is_same name word ≡ false
unlike name word none = ⊎_elim (λ same. absurd (none (inl same))) (λ other. other) (cases_Bool (is_same name word))

-- a word that isn't near is farther than one that is
farther : (name word other : List ℕ) → IsNear name word → ¬ IsNear name other → farness name word < farness name other
farther name word other h3 none = search rules

-- ---- what was found so far

-- a word that is less far away than this is nearer than what was found
abbrev pub limit_of : List ℕ → Option (List ℕ) → ℕ
limit_of name None = suc (min (length (chars name)) (suc (most_edits (length (chars name)))))
limit_of name (Some word) = farness name word

-- what was found among these words, and the number of edits below which a word is nearer
pub record IsSoFar (words : List (List ℕ)) (name : List ℕ) (found : Option (List ℕ)) (limit : ℕ) : Type 0 where
  pub is_nearest : IsNearest words name found
  pub limit_is : suc limit ≡ limit_of name found

-- each word so far is farther than a nearer one
all_farther : (name word : List ℕ) (words : List (List ℕ)) (found : Option (List ℕ)) → IsNearest words name found → IsNear name word → farness name word < limit_of name found
    → AllByRecursion (λ other. farness name word < farness name other) words
all_farther name word words None none near less = all_weaker (λ other. ¬ IsNear name other) (λ other. farness name word < farness name other) (λ other. farther name word other near) words none
all_farther name word words (Some best) nearest near less =
    rw nearest.whole
    (all_joined (λ other. farness name word < farness name other) nearest.before (best ∷ nearest.after)
    (all_weaker (λ other. farness name best < farness name other) (λ other. farness name word < farness name other) (λ other more. omega (arith, less, more)) nearest.before nearest.farther_before)
    (less, all_weaker (λ other. farness name best ≤ farness name other) (λ other. farness name word < farness name other) (λ other more. omega (arith, less, more)) nearest.after nearest.none_nearer))

-- a nearer word is near
near_below : (name word : List ℕ) (words : List (List ℕ)) (found : Option (List ℕ)) → IsNearest words name found → farness name word < limit_of name found → IsNear name word
near_below name word words found none less = search rules

-- a nearer word is the nearest so far
pub nearer : {words : List (List ℕ)} {name : List ℕ} {found : Option (List ℕ)} {limit : ℕ} (word : List ℕ) → IsSoFar words name found limit → is_same name word ≡ false → distance name word < limit
    → IsSoFar (words ++ (word ∷ [])) name (Some word) (distance name word)
nearer {words} {name} {found} {limit} word so other less =
    let far = far_other name word other in
    let below : farness name word < limit_of name found = omega (arith, so.limit_is, far, less) in
    let near = near_below name word words found so.is_nearest below in
    record {
      is_nearest = record { before = words; after = []; whole = refl; near = near; farther_before = all_farther name word words found so.is_nearest near below; none_nearer = tt };
      limit_is = sym far;
    }

-- what was found stays the nearest with a word more that isn't nearer
still_nearest : (words : List (List ℕ)) (name : List ℕ) (found : Option (List ℕ)) (word : List ℕ) → IsNearest words name found → limit_of name found ≤ farness name word → IsNearest (words ++ (word ∷ [])) name found
still_nearest words name None word none more =
    all_joined (λ other. ¬ IsNear name other) words (word ∷ []) none (⊎_elim (λ same. omega (arith, far_same name word same, more)) (λ edits. omega (arith, clamps, far_at_most name word, more, edits.few, edits.below_length)), tt)
still_nearest words name (Some best) word nearest more = record {
  before = nearest.before;
  after = nearest.after ++ (word ∷ []);
  whole = ap (λ front. front ++ (word ∷ [])) nearest.whole ∙ append_assoc nearest.before (best ∷ nearest.after) (word ∷ []);
  near = nearest.near;
  farther_before = nearest.farther_before;
  none_nearer = all_joined (λ other. farness name best ≤ farness name other) nearest.after (word ∷ []) nearest.none_nearer (more, tt);
}

-- a word that isn't nearer changes nothing
pub not_nearer : {words : List (List ℕ)} {name : List ℕ} {found : Option (List ℕ)} {limit : ℕ} (word : List ℕ) → IsSoFar words name found limit → is_same name word ≡ false → limit ≤ distance name word
    → IsSoFar (words ++ (word ∷ [])) name found limit
not_nearer {words} {name} {found} {limit} word so other more = record {
  is_nearest = still_nearest words name found word so.is_nearest (omega (arith, so.limit_is, far_other name word other, more));
  limit_is = so.limit_is;
}

-- ---- one word more

pub one_more : (words : List (Bor (List ℕ))) (i : ℕ) (word : Bor (List ℕ)) → i < length words → word ≡ get_or words i word → words_of (take (i + 1) words) ≡ words_of (take i words) ++ (word.now ∷ [])
one_more words i word within is = rw (take_more words i word within, ← is) (map_push (λ word. word.now) (take i words) word)

-- the word at this index is nearer
pub nearer_on : (words : List (Bor (List ℕ))) (i : ℕ) (d : Bor (List ℕ)) {name : List ℕ} {found : Option (List ℕ)} {limit edits : ℕ} → i < length words → is_same name (get_or words i d).now ≡ false
    → edits ≡ distance name (get_or words i d).now → edits < limit
    → IsSoFar (words_of (take i words)) name found limit → IsSoFar (words_of (take (i + 1) words)) name (Some (get_or words i d).now) edits
nearer_on words i d within other is less so =
    rw (one_more words i (get_or words i d) within (get_or_default words i d (get_or words i d) within), is) (nearer (get_or words i d).now so other (omega (arith, is, less)))

-- the word at this index isn't
pub not_nearer_on : (words : List (Bor (List ℕ))) (i : ℕ) (d : Bor (List ℕ)) {name : List ℕ} {found : Option (List ℕ)} {limit edits : ℕ} → i < length words → is_same name (get_or words i d).now ≡ false
    → edits ≡ distance name (get_or words i d).now → limit ≤ edits
    → IsSoFar (words_of (take i words)) name found limit → IsSoFar (words_of (take (i + 1) words)) name found limit
not_nearer_on words i d within other is more so =
    rw (one_more words i (get_or words i d) within (get_or_default words i d (get_or words i d) within)) (not_nearer (get_or words i d).now so other (omega (arith, is, more)))

-- nor where its length alone is too far off
pub apart_on : (words : List (Bor (List ℕ))) (i : ℕ) (d : Bor (List ℕ)) {name : List ℕ} {found : Option (List ℕ)} {limit count : ℕ} → i < length words → is_same name (get_or words i d).now ≡ false
    → count ≡ length (chars (get_or words i d).now)
    → ((edits : ℕ) → length (chars name) ≤ count + edits → count ≤ length (chars name) + edits → limit ≤ edits)
    → IsSoFar (words_of (take i words)) name found limit → IsSoFar (words_of (take (i + 1) words)) name found limit
apart_on words i d {name} within other is enough so =
    let word = (get_or words i d).now in
    let apart = distance_apart name word in
    not_nearer_on words i d within other refl (enough (distance name word) (omega (arith, is, apart.0, apart.1)) (omega (arith, is, apart.0, apart.1))) so

-- the first word that is the same is the nearest of all
pub same_at : (words : List (Bor (List ℕ))) (i : ℕ) (d : Bor (List ℕ)) {name : List ℕ} {found : Option (List ℕ)} {limit : ℕ} → i < length words → is_same name (get_or words i d).now ≡ true
    → IsSoFar (words_of (take i words)) name found limit → IsNearestWord (words_of words) name (get_or words i d).now
same_at words i d {name} {found} within same so =
    let word = (get_or words i d).now in
    let far = far_same name word same in
    let below : farness name word < limit_of name found = omega (arith, so.limit_is, far) in
    let cut : words ≡ take i words ++ (get_or words i d ∷ drop (i + 1) words) = sym (take-append-drop i words) ∙ ap (λ rest. take i words ++ rest) (drop_more words i d within) in
    record {
      before = words_of (take i words);
      after = words_of (drop (i + 1) words);
      whole = ap words_of cut ∙ map-append (λ word. word.now) (take i words) (get_or words i d ∷ drop (i + 1) words);
      near = inl same;
      farther_before = all_farther name word (words_of (take i words)) found so.is_nearest (inl same) below;
      none_nearer = all_always (λ other. omega (arith, far)) (words_of (drop (i + 1) words));
    }

-- ---- the same but for letter case

module _ (alike : ℕ → ℕ → Bool) where
  pairs_alike : (xs ys : List ℕ) → pointwise alike xs ys ≡ true → AllByRecursion (λ (pair : ℕ × ℕ). alike pair.0 pair.1 ≡ true) (zip xs ys)
  pairs_alike [] [] h = tt
  pairs_alike [] (y ∷ ys) h = tt
  pairs_alike (x ∷ xs) [] h = tt
  pairs_alike (x ∷ xs) (y ∷ ys) h = (first_so (alike x y) (pointwise alike xs ys) h, pairs_alike xs ys (second_so (alike x y) (pointwise alike xs ys) h))

  lists_alike : (xs ys : List ℕ) → length xs ≡ length ys → AllByRecursion (λ (pair : ℕ × ℕ). alike pair.0 pair.1 ≡ true) (zip xs ys) → pointwise alike xs ys ≡ true
  lists_alike [] [] long h = refl
  lists_alike [] (y ∷ ys) long h = absurd (omega (arith, long))
  lists_alike (x ∷ xs) [] long h = absurd (omega (arith, long))
  lists_alike (x ∷ xs) (y ∷ ys) long h = rw (h.0, lists_alike xs ys (omega (arith, long)) h.1) refl

  one_answer : (a b : Bool) → (a ≡ true → b ≡ true) → (b ≡ true → a ≡ true) → a ≡ b
  one_answer a b f g = search rules

  -- two lists of one length are alike where all their pairs are
  pub alike_by_pairs : (xs ys : List ℕ) (r : Bool) → length xs ≡ length ys
      → MatchBool r (AllWithin (λ (pair : ℕ × ℕ). alike pair.0 pair.1 ≡ true) (zip xs ys) 0 (length (zip xs ys))) ((k : ℕ) × (k < length (zip xs ys)) × HoldsAt (λ (pair : ℕ × ℕ). alike pair.0 pair.1 ≡ false) (zip xs ys) k)
      → r ≡ pointwise alike xs ys
  alike_by_pairs xs ys r long answer =
      let decided = decided_all (λ (pair : ℕ × ℕ). alike pair.0 pair.1 ≡ true) (λ (pair : ℕ × ℕ). alike pair.0 pair.1 ≡ false) (zip xs ys) r (λ pair yes no. cc (yes, no)) answer in
      one_answer r (pointwise alike xs ys) (λ h. lists_alike xs ys long (decided.0 h)) (λ h. decided.1 (pairs_alike xs ys h))

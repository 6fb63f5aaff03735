-- Paths of keys as texts.
use Rattle.std.specs.Prelude.{codes, flat_map}
use Rattle.std.proofs.Common.{◌≡◌, ◌≢◌, ◌∙◌, ◌<◌, ◌+◌, ◌++◌, ◌∷◌, ℕ, suc, [], List, Bor, ap, append-nil, append_assoc, arith, get_or, length, map, refl, sym, take}
use Rattle.std.proofs.lemmas.Grind.{flat_map-append}
use Rattle.std.proofs.lemmas.List.{map-append, map_push, take_more}
use Rattle.std.specs.List.{join_by}
use Rattle.nextest_config_profiles.specs.Reach.{words_of}
use Rattle.nextest_config_profiles.specs.Report.Setting.{SettingRule}
use Rattle.nextest_config_profiles.specs.Report.Wanted.{dotted, HasNoDot, IsPathText, paths_of}
use Rattle.nextest_config_profiles.specs.Said.{Path}

-- ---- a text that is cut

pub no_dot : (text : List ℕ) → ((i : ℕ) → i < length text → get_or text i 0 ≢ 46) → HasNoDot text
no_dot [] none = tt
no_dot (byte ∷ text) none = (none 0 (omega arith), no_dot text (λ i within. none (suc i) (omega (arith, within))))

-- a text without a dot is one key
pub one_key : (text : List ℕ) → HasNoDot text → IsPathText text (text ∷ [])
one_key text none = record { some = λ empty. cc empty; joined = append-nil text; no_dots = (none, tt) }

-- what stands before the first dot is a key before those behind it
joined_more : (key rest : List ℕ) (keys : Path) → keys ≢ [] → dotted keys ≡ rest → dotted (key ∷ keys) ≡ key ++ (46 ∷ rest)
joined_more key rest [] some joined = absurd (some refl)
joined_more key rest (next ∷ keys) some joined = ap (λ behind. key ++ (46 ∷ behind)) joined

pub key_more : (text key rest : List ℕ) (keys : Path) → text ≡ key ++ (46 ∷ rest) → HasNoDot key → IsPathText rest keys → IsPathText text (key ∷ keys)
key_more text key rest keys cut none behind = record {
  some = λ empty. cc empty;
  joined = joined_more key rest keys behind.some behind.joined ∙ sym cut;
  no_dots = (none, behind.no_dots);
}

-- ---- keys that are joined

joined_rest : (mark : List ℕ) (words : List (Bor (List ℕ))) → flat_map (λ word. mark ++ word.now) words ≡ flat_map (λ key. mark ++ key) (words_of words)
joined_rest mark [] = refl
joined_rest mark (word ∷ words) = ap (λ rest. (mark ++ word.now) ++ rest) (joined_rest mark words)

pub joined_words : (words : List (Bor (List ℕ))) → join_by (λ word. word.now) (codes ".") words ≡ dotted (words_of words)
joined_words [] = refl
joined_words (word ∷ words) = ap (λ rest. word.now ++ rest) (joined_rest (codes ".") words)

-- ---- lists of paths

-- what is made of first elements, and of those that each element so far leads to, with one more
pub one_more : {X S A B : Type 0} (rule : X → S) (f : S → A) (g : A → B) (xs : List X) (i : ℕ) (x : X) → i < length xs → (before text : List B) (firsts : List A)
    → text ≡ before ++ map g (firsts ++ map f (map rule (take i xs)))
    → text ++ (g (f (rule (get_or xs i x))) ∷ []) ≡ before ++ map g (firsts ++ map f (map rule (take (i + 1) xs)))
one_more rule f g xs i x within before text firsts is =
    let so_far = map f (map rule (take i xs)) in
    let y = f (rule (get_or xs i x)) in
    rw (
      take_more xs i x within,
      map_push rule (take i xs) (get_or xs i x),
      map_push f (map rule (take i xs)) (rule (get_or xs i x)),
      sym (append_assoc firsts so_far (y ∷ [])),
      map_push g (firsts ++ so_far) y,
    )
    (ap (λ front. front ++ (g y ∷ [])) is ∙ append_assoc before (map g (firsts ++ so_far)) (g y ∷ []))

-- the paths of the settings so far, and those of one more
pub paths_more : {X : Type 0} (rule : X → SettingRule) (xs : List X) (i : ℕ) (x : X) (text more : List (List ℕ)) → i < length xs
    → text ≡ map dotted (flat_map paths_of (map rule (take i xs))) → more ≡ text ++ map dotted (paths_of (rule (get_or xs i x)))
    → more ≡ map dotted (flat_map paths_of (map rule (take (i + 1) xs)))
paths_more rule xs i x text more within is added =
    let so_far = map rule (take i xs) in
    let y = rule (get_or xs i x) in
    added ∙ ap (λ front. front ++ map dotted (paths_of y)) is ∙ sym (map-append dotted (flat_map paths_of so_far) (paths_of y))
    ∙ ap (map dotted) (ap (λ rest. flat_map paths_of so_far ++ rest) (sym (append-nil (paths_of y))) ∙ sym (flat_map-append paths_of so_far (y ∷ [])))
    ∙ ap (λ all. map dotted (flat_map paths_of all)) (sym (ap (map rule) (take_more xs i x within) ∙ map_push rule (take i xs) (get_or xs i x)))

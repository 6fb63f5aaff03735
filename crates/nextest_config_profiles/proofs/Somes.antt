-- What keys have that may have nothing, with one key more.
use Rattle.std.proofs.Common.{◌≡◌, ◌∙◌, ◌<◌, ◌+◌, ℕ, List, [], ◌∷◌, ◌++◌, Option, ap, append-nil, flat_map, get_or, length, map, sym, take}
use Rattle.std.proofs.lemmas.List.{append_assoc, map_push, take_more}
use Rattle.nextest_config.proofs.Lists.{zip_push}
use Rattle.nextest_config_profiles.specs.Report.Somes.{AreLists, AreSomes, some_list, somes}

pub somes_push : {A : Type 0} (all : List (Option A)) (x : Option A)
    → somes (all ++ (x ∷ [])) ≡ somes all ++ some_list x
somes_push [] x = append-nil (some_list x)
somes_push (y ∷ all) x =
    ap (λ rest. some_list y ++ rest) (somes_push all x) ∙ sym (append_assoc (some_list y) (somes all) (some_list x))

pub one_more : {K A : Type 0} (Has : K → Option A → Type 0) (keys : List K) (key : K) (all : List A) (x : Option A)
    → AreSomes Has keys all → Has key x → AreSomes Has (keys ++ (key ∷ [])) (all ++ some_list x)
one_more Has keys key all x so_far here = record {
  each = so_far.each ++ (x ∷ []);
  are_each = zip_push Has keys so_far.each key x so_far.are_each here;
  whole = ap (λ before. before ++ some_list x) so_far.whole ∙ sym (somes_push so_far.each x);
}

-- the same of the keys of elements
pub some_more : {X K A : Type 0} (Has : K → Option A → Type 0) (f : X → K) (xs : List X) (i : ℕ) (x : X) (all : List A) (had : Option A) → i < length xs
    → AreSomes Has (map f (take i xs)) all → Has (f (get_or xs i x)) had → AreSomes Has (map f (take (i + 1) xs)) (all ++ some_list had)
some_more Has f xs i x all had within so_far here =
    rw (take_more xs i x within, map_push f (take i xs) (get_or xs i x)) (one_more Has (map f (take i xs)) (f (get_or xs i x)) all had so_far here)

-- ---- lists of them

joined_push : {A : Type 0} (all : List (List A)) (list : List A) → flat_map (λ list. list) (all ++ (list ∷ [])) ≡ flat_map (λ list. list) all ++ list
joined_push [] list = append-nil list
joined_push (first ∷ all) list =
    ap (λ rest. first ++ rest) (joined_push all list) ∙ sym (append_assoc first (flat_map (λ list. list) all) list)

pub list_more : {X K A : Type 0} (Have : K → List A → Type 0) (f : X → K) (xs : List X) (i : ℕ) (x : X) (all list : List A) → i < length xs
    → AreLists Have (map f (take i xs)) all → Have (f (get_or xs i x)) list → AreLists Have (map f (take (i + 1) xs)) (all ++ list)
list_more Have f xs i x all list within so_far here =
    rw (take_more xs i x within, map_push f (take i xs) (get_or xs i x))
    (record {
      each = so_far.each ++ (list ∷ []);
      are_each = zip_push Have (map f (take i xs)) so_far.each (f (get_or xs i x)) list so_far.are_each here;
      whole = ap (λ before. before ++ list) so_far.whole ∙ sym (joined_push so_far.each list);
    })

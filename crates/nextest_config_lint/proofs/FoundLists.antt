-- What is found of each element of a list.
use Rattle.std.proofs.Common.{List, [], ◌∷◌, ◌++◌, Option, Some, append_assoc, append-nil, map, option_to_list, refl, sym}
use Rattle.std.proofs.lemmas.List.{map-append, map_push}
use Rattle.nextest_config_lint.specs.Found.{AddsFound, AddsOne, AreFoundIn, Found, found_of, Reports}
use Rattle.nextest_config_lint.specs.declared.finding.Finding.{Finding}

-- what is found of lists in a row
pub found_in_both : {A : Type 0} (IsFound : A → Option Found → Type 0) (xs ys : List A) (all_found later : List Found)
    → AreFoundIn IsFound xs all_found → AreFoundIn IsFound ys later → AreFoundIn IsFound (xs ++ ys) (all_found ++ later)
found_in_both IsFound [] ys all_found later none are = rw none are
found_in_both IsFound (x ∷ xs) ys all_found later (here, rest, is, rest_are, whole) are =
    let behind = found_in_both IsFound xs ys rest later rest_are are in
    (here, rest ++ later, is, behind, rw whole (append_assoc (option_to_list here) rest later))

-- what lists of findings in a row tell
pub reported_in_both : (findings more : List Finding) (all_found later : List Found)
    → Reports findings all_found → Reports more later → Reports (findings ++ more) (all_found ++ later)
reported_in_both findings more all_found later reported too = rw (map-append found_of findings more, map-append Some all_found later, reported, too) refl

-- ---- findings that come after others

-- those of more
pub adds_more : {A : Type 0} (IsFound : A → Option Found → Type 0) (xs ys : List A) (before between now : List Finding)
    → AddsFound IsFound xs before between → AddsFound IsFound ys between now → AddsFound IsFound (xs ++ ys) before now
adds_more IsFound xs ys before between now (all_found, are, so_far) (later, later_are, more) =
    (all_found ++ later, found_in_both IsFound xs ys all_found later are later_are, cc (more, so_far, append_assoc (map found_of before) (map Some all_found) (map Some later), map-append Some all_found later))

-- those of one
pub adds_one : {A : Type 0} (IsFound : A → Option Found → Type 0) (x : A) (before now : List Finding) → AddsOne IsFound x before now → AddsFound IsFound (x ∷ []) before now
adds_one IsFound x before now (here, is, more) = (option_to_list here, (here, [], is, refl, sym (append-nil (option_to_list here))), more)

-- those of one more
pub adds_next : {X A : Type 0} (IsFound : A → Option Found → Type 0) (f : X → A) (xs : List X) (x : X) (before between now : List Finding)
    → AddsFound IsFound (map f xs) before between → AddsOne IsFound (f x) between now → AddsFound IsFound (map f (xs ++ (x ∷ []))) before now
adds_next IsFound f xs x before between now so_far one =
    rw (map_push f xs x) (adds_more IsFound _ _ before between now so_far (adds_one IsFound (f x) between now one))

-- Mapped lists, and two lists element by element.
use Rattle.std.proofs.Common.{◌≡◌, ℕ, suc, ◌+◌, ◌<◌, List, [], ◌∷◌, ◌++◌, length, get_or, take, drop, map, refl, sym, ap, ◌∙◌}
use Rattle.std.proofs.lemmas.List.{drop_more, map-append, take-append-drop}
use Rattle.std.specs.List.{AllByRecursion, AllZip}

pub all_mapped : {X Y : Type 0} (P : X → Type 0) (Q : Y → Type 0) (f : X → Y) → ((x : X) → P x → Q (f x)) → (xs : List X) → AllByRecursion P xs → AllByRecursion Q (map f xs)
all_mapped P Q f step [] h = tt
all_mapped P Q f step (x ∷ xs) h = (step x h.0, all_mapped P Q f step xs h.1)

pub map_agrees : {X Y : Type 0} (f g : X → Y) (xs : List X) → AllByRecursion (λ x. f x ≡ g x) xs → map f xs ≡ map g xs
map_agrees f g [] h = refl
map_agrees f g (x ∷ xs) h = rw (h.0, map_agrees f g xs h.1)

pub zip_same_images : {X Y : Type 0} (f : X → Y) (xs ys : List X) → AllZip (λ x y. f y ≡ f x) xs ys → map f ys ≡ map f xs
zip_same_images f [] [] h = refl
zip_same_images f [] (y ∷ ys) h = absurd h
zip_same_images f (x ∷ xs) [] h = absurd h
zip_same_images f (x ∷ xs) (y ∷ ys) h = rw (h.0, zip_same_images f xs ys h.1) refl

pub zip_middle : {X Y : Type 0} (R : X → Y → Type 0) (xs : List X) (x : X) (rest : List X) (ys : List Y) → AllZip R (xs ++ (x ∷ rest)) ys → (y : Y) × R x y
zip_middle R [] x rest [] h = absurd h
zip_middle R [] x rest (y ∷ ys) h = (y, h.0)
zip_middle R (z ∷ xs) x rest [] h = absurd h
zip_middle R (z ∷ xs) x rest (y ∷ ys) h = zip_middle R xs x rest ys h.1

-- the images before an element, its own, and those after it
pub map-around : {X Y : Type 0} (f : X → Y) (xs : List X) (i : ℕ) (x : X) → i < length xs → x ≡ get_or xs i x → map f xs ≡ map f (take i xs) ++ (f x ∷ map f (drop (i + 1) xs))
map-around f xs i x within here =
    ap (map f) (sym (take-append-drop i xs)) ∙ map-append f (take i xs) (drop i xs) ∙ rw (drop_more xs i x within, ← here) refl

pub zip_push : {X Y : Type 0} (R : X → Y → Type 0) (xs : List X) (ys : List Y) (x : X) (y : Y) → AllZip R xs ys → R x y → AllZip R (xs ++ (x ∷ [])) (ys ++ (y ∷ []))
zip_push R [] [] x y h r = (r, tt)
zip_push R [] (z ∷ ys) x y h r = absurd h
zip_push R (z ∷ xs) [] x y h r = absurd h
zip_push R (w ∷ xs) (z ∷ ys) x y h r = (h.0, zip_push R xs ys x y h.1 r)

pub zip_joined : {X Y : Type 0} (R : X → Y → Type 0) (xs : List X) (us : List Y) (ys : List X) (vs : List Y) → AllZip R xs us → AllZip R ys vs → AllZip R (xs ++ ys) (us ++ vs)
zip_joined R [] [] ys vs h k = k
zip_joined R [] (u ∷ us) ys vs h k = absurd h
zip_joined R (x ∷ xs) [] ys vs h k = absurd h
zip_joined R (x ∷ xs) (u ∷ us) ys vs h k = (h.0, zip_joined R xs us ys vs h.1 k)

-- where the second list has an element between others, the first has its partner between theirs
pub record IsCutBefore {X Y : Type 0} (R : X → Y → Type 0) (xs : List X) (before : List Y) (y : Y) : Type 0 where
  pub front : List X
  pub x : X
  pub back : List X
  pub whole : xs ≡ front ++ (x ∷ back)
  pub long : length front ≡ length before
  pub of_front : AllZip R front before
  pub of_one : R x y

pub zip_around : {X Y : Type 0} (R : X → Y → Type 0) (xs : List X) (before : List Y) (y : Y) (after : List Y) → AllZip R xs (before ++ (y ∷ after)) → IsCutBefore R xs before y
zip_around R [] [] y after h = absurd h
zip_around R [] (z ∷ before) y after h = absurd h
zip_around R (x ∷ xs) [] y after h = record { front = []; x = x; back = xs; whole = refl; long = refl; of_front = tt; of_one = h.0 }
zip_around R (x ∷ xs) (z ∷ before) y after h =
    let later = zip_around R xs before y after h.1 in
    record { front = x ∷ later.front; x = later.x; back = later.back; whole = ap (λ rest. x ∷ rest) later.whole; long = ap suc later.long; of_front = (h.0, later.of_front); of_one = later.of_one }

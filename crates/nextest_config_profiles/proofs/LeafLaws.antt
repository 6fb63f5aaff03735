-- Laws of leaves among layers.
use Rattle.std.proofs.Common.{◌≡◌, ◌↔◌, ℕ, suc, List, [], ◌∷◌, ◌++◌, length, map, Option, Some, None, append_assoc, append-nil, drop, refl, sym, ap, subst, ◌∙◌, inl, inr}
use Rattle.std.proofs.lemmas.List.{map_push}
use mathlib.Core.List.{map-append}
use Rattle.std.specs.List.{AllByRecursion}
use Rattle.std.specs.Prelude.{unwrap_or}
use Rattle.toml.specs.Data.{Data, get_member, member, no_members, string, table}
use Rattle.toml_spans.proofs.Elements.{all_left, all_right}
use Rattle.nextest_config.proofs.Lists.{all_mapped}
use Rattle.nextest_config_profiles.specs.Chain.{IsChain, IsNext, of_inherits}
use Rattle.nextest_config_profiles.specs.Merged.{IsLeaf, Layers, leaf_of}
use Rattle.nextest_config_profiles.specs.Said.{bare, barred, branch, leaf, Path, Said, said_at, silent}
use Rattle.nextest_config_profiles.specs.Selection.{HasNothing, IsLast, IsLeafAmong}
use Rattle.nextest_config_profiles.proofs.LastSaid.{new_last, still_last}
use Rattle.nextest_config_profiles.proofs.Selection.{all_over, all_over_both, bare_left, emptied_on, IsSeenLeaf, selected_leaf}

abbrev AllSilent : List Said → Type 0
AllSilent = AllByRecursion (λ said. said ≡ silent)

-- the first of a list, or this
abbrev first_or : Said → List Said → Said
first_or said [] = said
first_or said (first ∷ rest) = first

-- ---- one leaf

-- the last ones that aren't silent are one
same_last : (b a c d : List Said) (s t : Said) → b ++ s ∷ a ≡ c ++ t ∷ d → AllSilent a → AllSilent d → (s ≡ silent → ⊥) → (t ≡ silent → ⊥)
    → (length b ≡ length c) × (s ≡ t)
same_last [] a [] d s t same x y no_s no_t = (refl, ap (first_or silent) same)
same_last [] a (z ∷ c) d s t same x y no_s no_t = absurd (no_t (all_right (λ said. said ≡ silent) c (t ∷ d) (subst AllSilent (ap (drop 1) same) x)).0)
same_last (z ∷ b) a [] d s t same x y no_s no_t = absurd (no_s (all_right (λ said. said ≡ silent) b (s ∷ a) (subst AllSilent (ap (drop 1) (sym same)) y)).0)
same_last (z ∷ b) a (w ∷ c) d s t same x y no_s no_t =
    let later = same_last b a c d s t (ap (drop 1) same) x y no_s no_t in
    (ap suc later.0, later.1)

pub last_once : (all : List Said) (p q : ℕ) (s t : Said) → IsLast all p s → IsLast all q t → (s ≡ silent → ⊥) → (t ≡ silent → ⊥) → (p ≡ q) × (s ≡ t)
last_once all p q s t last other no_s no_t =
    let same = same_last last.below last.above other.below other.above s t (sym last.whole ∙ other.whole) last.silent_above other.silent_above no_s no_t in
    (sym last.place ∙ same.0 ∙ other.place, same.1)

leaf_place : (all : List Said) (p q : ℕ) (v w : Data) → IsLeafAmong all p v → IsLeafAmong all q w → p ≡ q
leaf_place all p q v w (inl last) (inl other) = (last_once all p q (leaf v) (leaf w) last other (λ e. cc e) (λ e. cc e)).0
leaf_place all p q v w (inl last) (inr other) = (last_once all p q (leaf v) bare last other.0 (λ e. cc e) (λ e. cc e)).0
leaf_place all p q v w (inr last) (inl other) = (last_once all p q bare (leaf w) last.0 other (λ e. cc e) (λ e. cc e)).0
leaf_place all p q v w (inr last) (inr other) = (last_once all p q bare bare last.0 other.0 (λ e. cc e) (λ e. cc e)).0

seen_once : (said : Said) (v w : Data) → IsSeenLeaf said v → IsSeenLeaf said w → v ≡ w
seen_once said v w (inl a) (inl b) = ap (λ found. unwrap_or (leaf_of found) v) (sym a ∙ b)
seen_once said v w (inl a) (inr b) = absurd (cc (sym a ∙ b.0))
seen_once said v w (inr a) (inl b) = absurd (cc (sym a.0 ∙ b))
seen_once said v w (inr a) (inr b) = a.1 ∙ sym b.1

pub leaf_once : (layers : Layers) (path : Path) (p q : ℕ) (v w : Data) → IsLeaf layers path p v → IsLeaf layers path q w → (p ≡ q) × (v ≡ w)
leaf_once layers path p q v w one other =
    let all = map (said_at path) layers in
    (leaf_place all p q v w one other, seen_once (all_over silent all) v w (selected_leaf all p v one) (selected_leaf all q w other))

-- ---- layers that say nothing

no_end : (below : List Said) (s : Said) (above : List Said) → [] ≡ below ++ s ∷ above → ⊥
no_end [] s above e = cc e
no_end (b ∷ below) s above e = cc e

-- without the silent one at the end, the last is the same
unshift : (all below : List Said) (s : Said) (above : List Said) → (s ≡ silent → ⊥) → all ++ silent ∷ [] ≡ below ++ s ∷ above → AllSilent above
    → (rest : List Said) × (all ≡ below ++ s ∷ rest) × AllSilent rest
unshift [] [] s above other same silents = absurd (other (sym (ap (first_or silent) same)))
unshift [] (b ∷ below) s above other same silents = absurd (no_end below s above (ap (drop 1) same))
unshift (a ∷ all) [] s above other same silents =
    (all, ap (λ first. first ∷ all) (ap (first_or silent) same), all_left (λ said. said ≡ silent) all (silent ∷ []) (subst AllSilent (sym (ap (drop 1) same)) silents))
unshift (a ∷ all) (b ∷ below) s above other same silents =
    let later = unshift all below s above other (ap (drop 1) same) silents in
    (later.0, ap (λ rest. a ∷ rest) later.1 ∙ ap (λ first. first ∷ (below ++ s ∷ later.0)) (ap (first_or silent) same), later.2)

last_without : (all : List Said) (p : ℕ) (s : Said) → (s ≡ silent → ⊥) → IsLast (all ++ silent ∷ []) p s → IsLast all p s
last_without all p s other last =
    let found = unshift all last.below s last.above other last.whole last.silent_above in
    record { below = last.below; above = found.0; whole = found.1; place = last.place; silent_above = found.2 }

with_silent : (all : List Said) (p : ℕ) (v : Data) → IsLeafAmong all p v → IsLeafAmong (all ++ silent ∷ []) p v
with_silent all p v (inl last) = inl (still_last all p (leaf v) last)
with_silent all p v (inr (last, emptied, is)) =
    inr (still_last all p bare last, emptied_on silent (all ++ silent ∷ []) (all_over_both silent all (silent ∷ []) ∙ bare_left all p last emptied), is)

without_silent : (all : List Said) (p : ℕ) (v : Data) → IsLeafAmong (all ++ silent ∷ []) p v → IsLeafAmong all p v
without_silent all p v (inl last) = inl (last_without all p (leaf v) (λ e. cc e) last)
without_silent all p v (inr (last, emptied, is)) =
    inr (last_without all p bare (λ e. cc e) last, emptied_on silent all (sym (all_over_both silent all (silent ∷ [])) ∙ bare_left (all ++ silent ∷ []) p last emptied), is)

silent_above : (all more : List Said) → AllSilent more → (p : ℕ) (v : Data) → IsLeafAmong (all ++ more) p v ↔ IsLeafAmong all p v
silent_above all [] h p v = rw (append-nil all) (λ is. is, λ is. is)
silent_above all (said ∷ more) h p v =
    let later = silent_above (all ++ said ∷ []) more h.1 p v in
    let joined = append_assoc all (said ∷ []) more in
    let one = subst (λ first. IsLeafAmong (all ++ first ∷ []) p v ↔ IsLeafAmong all p v) (sym h.0) (without_silent all p v, with_silent all p v) in (
      λ is. one.0 (later.0 (subst (λ xs. IsLeafAmong xs p v) (sym joined) is)),
      λ is. subst (λ xs. IsLeafAmong xs p v) joined (later.1 (one.1 is)),
    )

pub silent_layers : (layers above : Layers) (path : Path) → AllByRecursion (λ layer. said_at path layer ≡ silent) above → (p : ℕ) (v : Data)
    → IsLeaf (layers ++ above) path p v ↔ IsLeaf layers path p v
silent_layers layers above path h p v =
    rw (map-append (said_at path) layers above) (silent_above (map (said_at path) layers) (map (said_at path) above) (all_mapped (λ layer. said_at path layer ≡ silent) (λ said. said ≡ silent) (said_at path) (λ layer is. is) above h) p v)

-- ---- a layer on top

-- nothing is below a value that is no table
leaf_bars : (path : Path) (top : Option Data) (value : Data) (key : List ℕ) (below : Path) → said_at path top ≡ leaf value → said_at (path ++ key ∷ below) top ≡ barred
leaf_bars path None value key below h = absurd (cc h)
leaf_bars [] (Some (table no_members)) value key below h = absurd (cc h)
leaf_bars [] (Some (table (member k v rest))) value key below h = absurd (cc h)
leaf_bars (k ∷ path) (Some (table held)) value key below h = leaf_bars path (get_member k held) value key below h
leaf_bars path (Some other) value key below h = refl

-- what leads to a value is a table with keys
leads_on : (path : Path) (top : Option Data) (value : Data) (key : List ℕ) (below : Path) → said_at (path ++ key ∷ below) top ≡ leaf value → said_at path top ≡ branch
leads_on [] (Some (table (member k v rest))) value key below h = refl
leads_on (k ∷ path) (Some (table held)) value key below h = leads_on path (get_member k held) value key below h
leads_on [] (Some (table no_members)) value key below h = absurd (cc h)
leads_on path top value key below h = absurd (cc h)

-- of a list that ends in what isn't silent and is no leaf, there is no leaf
no_leaf_last : (all : List Said) (said : Said) → (said ≡ silent → ⊥) → ((value : Data) → leaf value ≡ said → ⊥) → (bare ≡ said → ⊥) → (p : ℕ) (v : Data)
    → IsLeafAmong (all ++ said ∷ []) p v → ⊥
no_leaf_last all said some no_leaf no_bare p v (inl last) = no_leaf v (last_once (all ++ said ∷ []) p (length all) (leaf v) said last (new_last all said) (λ e. cc e) some).1
no_leaf_last all said some no_leaf no_bare p v (inr last) = no_bare (last_once (all ++ said ∷ []) p (length all) bare said last.0 (new_last all said) (λ e. cc e) some).1

on_top : (layers : Layers) (top : Option Data) (path : Path) (said : Said) → said_at path top ≡ said → map (said_at path) (layers ++ top ∷ []) ≡ map (said_at path) layers ++ said ∷ []
on_top layers top path said is = map_push (said_at path) layers top ∙ ap (λ last. map (said_at path) layers ++ last ∷ []) is

pub none_below : (layers : Layers) (top : Option Data) (path : Path) (value : Data) → said_at path top ≡ leaf value → (key : List ℕ) (below : Path) (p : ℕ) (v : Data)
    → IsLeaf (layers ++ top ∷ []) (path ++ key ∷ below) p v → ⊥
none_below layers top path value is key below p v h =
    no_leaf_last (map (said_at (path ++ key ∷ below)) layers) barred (λ e. cc e) (λ value e. cc e) (λ e. cc e) p v
    (subst (λ all. IsLeafAmong all p v) (on_top layers top (path ++ key ∷ below) barred (leaf_bars path top value key below is)) h)

pub none_above : (layers : Layers) (top : Option Data) (path : Path) (value : Data) (key : List ℕ) (below : Path) → said_at (path ++ key ∷ below) top ≡ leaf value
    → (p : ℕ) (v : Data) → IsLeaf (layers ++ top ∷ []) path p v → ⊥
none_above layers top path value key below is p v h =
    no_leaf_last (map (said_at path) layers) branch (λ e. cc e) (λ value e. cc e) (λ e. cc e) p v
    (subst (λ all. IsLeafAmong all p v) (on_top layers top path branch (leads_on path top value key below is)) h)

-- ---- one chain

-- where there is nothing, the last says nothing
pub nothing_or_said : (all : List Said) (q : ℕ) (said : Said) → HasNothing all → IsLast all q said → (said ≡ silent → ⊥) → (said ≡ barred → ⊥) → ⊥
nothing_or_said all q said (inl none) last some free = some (all_right (λ said. said ≡ silent) last.below (said ∷ last.above) (subst AllSilent last.whole none)).0
nothing_or_said all q said (inr (p, barred_last)) last some free = free (sym (last_once all p q barred said barred_last last (λ e. cc e) some).1)

pub nothing_or_leaf : (all : List Said) (q : ℕ) (v : Data) → HasNothing all → IsLast all q (leaf v) → ⊥
nothing_or_leaf all q v none last = nothing_or_said all q (leaf v) none last (λ e. cc e) (λ e. cc e)

abbrev text_of : Said → List ℕ → List ℕ
text_of (leaf (string text)) other = text
text_of said other = other

pub next_once : (layers : Layers) (name n m : List ℕ) → IsNext layers name n → IsNext layers name m → n ≡ m
next_once layers name n m (inl a) (inl b) = a.1 ∙ sym b.1
next_once layers name n m (inl a) (inr b) = absurd (nothing_or_leaf (of_inherits layers name) b.0.0 (string m) a.0 b.0.1)
next_once layers name n m (inr a) (inl b) = absurd (nothing_or_leaf (of_inherits layers name) a.0.0 (string n) b.0 a.0.1)
next_once layers name n m (inr a) (inr b) =
    ap (λ said. text_of said n) (last_once (of_inherits layers name) a.0.0 b.0.0 (leaf (string n)) (leaf (string m)) a.0.1 b.0.1 (λ e. cc e) (λ e. cc e)).1

pub chain_once : (layers : Layers) (name : List ℕ) (c d : List (List ℕ)) → IsChain layers name c → IsChain layers name d → c ≡ d
chain_once layers name [] d h k = absurd h
chain_once layers name (x ∷ c) [] h k = absurd k
chain_once layers name (x ∷ c) (y ∷ d) (first, is, inl a) (other, is_too, inl b) = rw (first, other, a.1, b.1) refl
chain_once layers name (x ∷ c) (y ∷ d) (first, is, inl a) (other, is_too, inr b) = absurd (b.0 a.0)
chain_once layers name (x ∷ c) (y ∷ d) (first, is, inr a) (other, is_too, inl b) = absurd (a.0 b.0)
chain_once layers name (x ∷ c) (y ∷ d) (first, is, inr (apart, (next, is_next, rest))) (other, is_too, inr (apart_too, (next_other, is_other, rest_other))) =
    let same = next_once layers name next next_other is_next is_other in
    ap (λ f. f ∷ c) (first ∙ sym other) ∙ ap (λ r. y ∷ r) (chain_once layers next c d rest (subst (λ n. IsChain layers n d) (sym same) rest_other))

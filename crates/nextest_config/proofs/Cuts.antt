-- A list that is cut into parts, each of which is read.
use Rattle.std.proofs.Common.{◌≡◌, ◌↔◌, ◌⊎◌, ◌+◌, ℕ, List, [], ◌∷◌, ◌++◌, length, length-append, map, refl, sym, ap, ◌∙◌, inl, inr, ⊎_elim, subst, arith}
use Rattle.std.proofs.lemmas.List.Concat.{flat_map-append}
use Rattle.std.specs.List.{AllByRecursion, AllZip}
use Rattle.nextest_config.specs.Merge.{in_a_row, IsCut, total}
use Rattle.nextest_config.specs.NextestVersion.{AreRead, Configuration, IsFirstRefused, IsFirstRefusedAmong, IsJoinOf, IsReadAs, IsRefused, join_configurations, neutral_seen, Reads, Refusal, seen_configuration, SeenConfiguration, SourceAsk, StandsFor}
use Rattle.nextest_config.specs.NextestVersion.Source.{Source}
use Rattle.nextest_config.proofs.Halves.{wrong_in_first, wrong_in_second}
use Rattle.nextest_config.proofs.Lists.{zip_joined}
use Rattle.nextest_config.proofs.OneConfiguration.{seen_once}
use Rattle.nextest_config.proofs.OneVerdict.{all_read_once}
use Rattle.nextest_config.proofs.Standing.{all_seen, seen_of, stands_in_a_row, StandsSeen}

-- ---- which lists read

reads_both : (xs ys : List Source) → Reads xs → Reads ys → Reads (xs ++ ys)
reads_both xs ys (us, h) (vs, k) = (us ++ vs, zip_joined IsReadAs xs us ys vs h k)

reads_parts : (xs ys : List Source) (asked : List SourceAsk) → AreRead (xs ++ ys) asked → Reads xs × Reads ys
reads_parts [] ys asked read = (([], tt), (asked, read))
reads_parts (x ∷ xs) ys [] read = absurd read
reads_parts (x ∷ xs) ys (a ∷ asked) read =
    let (front, back) = reads_parts xs ys asked read.1 in
    ((a ∷ front.0, (read.0, front.1)), back)

reads_whole : (parts : List (List Source)) → AllByRecursion Reads parts → Reads (in_a_row parts)
reads_whole [] all = ([], tt)
reads_whole (part ∷ parts) all = reads_both part (in_a_row parts) all.0 (reads_whole parts all.1)

reads_each_part : (parts : List (List Source)) → Reads (in_a_row parts) → AllByRecursion Reads parts
reads_each_part [] reads = tt
reads_each_part (part ∷ parts) (asked, read) =
    let (front, back) = reads_parts part (in_a_row parts) asked read in
    (front, reads_each_part parts back)

pub reads_by_parts : (sources : List Source) (parts : List (List Source)) → IsCut sources parts → Reads sources ↔ AllByRecursion Reads parts
reads_by_parts sources parts cut = (λ reads. reads_each_part parts (subst Reads (sym cut) reads), λ all. subst Reads cut (reads_whole parts all))

-- ---- the first refused position

-- an element of two lists in a row stands in the first, or in the second
at_the_seam : {X : Type 0} (xs ys before : List X) (x : X) (after : List X) → xs ++ ys ≡ before ++ (x ∷ after)
    → ((rest : List X) × (xs ≡ before ++ (x ∷ rest))) ⊎ ((rest : List X) × (before ≡ xs ++ rest) × (ys ≡ rest ++ (x ∷ after)))
at_the_seam [] ys before x after whole = inr (before, refl, whole)
at_the_seam {X} (z ∷ xs) ys [] x after whole =
    let head : z ≡ x = cc whole in
    inl (xs, ap (λ (y : X). y ∷ xs) head)
at_the_seam {X} (z ∷ xs) ys (y ∷ before) x after whole =
    let head : z ≡ y = cc whole in
    let rest : xs ++ ys ≡ before ++ (x ∷ after) = cc whole in
    ⊎_elim (λ (more, is). inl (more, rw (head, is) refl)) (λ (more, is, behind). inr (more, rw (head, is) refl, behind)) (at_the_seam xs ys before x after rest)

-- a refused position of parts stands as far on after one more part that reads
one_part_before : (part : List Source) (parts : List (List Source)) (position : ℕ) (refusal : Refusal) → Reads part → IsFirstRefusedAmong parts position refusal
    → IsFirstRefusedAmong (part ∷ parts) (length part + position) refusal
one_part_before part parts position refusal reads first = record {
  before = part ∷ first.before;
  part = first.part;
  after = first.after;
  within = first.within;
  whole = ap (λ rest. part ∷ rest) first.whole;
  place = omega (arith, first.place, length-append part (in_a_row first.before));
  read = (reads, first.read);
  refused = first.refused;
}

refused_in : (parts : List (List Source)) (position : ℕ) (refusal : Refusal) → IsFirstRefused (in_a_row parts) position refusal → IsFirstRefusedAmong parts position refusal
refused_in [] position refusal first = absurd (omega (arith, ap length first.whole, length-append first.before (first.source ∷ first.after)))
refused_in (part ∷ parts) position refusal first =
    ⊎_elim (λ (rest, is). record {
      before = [];
      part = part;
      after = parts;
      within = position;
      whole = refl;
      place = omega arith;
      read = tt;
      refused = record { before = first.before; source = first.source; after = rest; whole = is; place = first.place; read = first.read; refused = first.refused };
    }) (λ (rest, is, behind).
    let reads = reads_parts part rest first.read.0 (subst (λ xs. AreRead xs first.read.0) is first.read.1) in
    let later = refused_in parts (length rest) refusal (record { before = rest; source = first.source; after = first.after; whole = behind; place = refl; read = reads.1; refused = first.refused }) in
    subst (λ n. IsFirstRefusedAmong (part ∷ parts) n refusal) (sym (length-append part rest) ∙ ap length (sym is) ∙ first.place) (one_part_before part parts (length rest) refusal reads.0 later))
    (at_the_seam part (in_a_row parts) first.before first.source first.after first.whole)

refused_in_whole : (parts : List (List Source)) (position : ℕ) (refusal : Refusal) → IsFirstRefusedAmong parts position refusal → IsFirstRefused (in_a_row parts) position refusal
refused_in_whole parts position refusal among =
    let front = in_a_row among.before in
    let back = in_a_row among.after in
    let here = wrong_in_first IsReadAs IsRefused among.part back among.within refusal among.refused in
    let there = wrong_in_second IsReadAs IsRefused front (among.part ++ back) among.within refusal (reads_whole among.before among.read) here in
    let whole : in_a_row parts ≡ front ++ (among.part ++ back) = ap in_a_row among.whole ∙ flat_map-append (λ list. list) among.before (among.part ∷ among.after) in
    subst (λ n. IsFirstRefused (in_a_row parts) n refusal) among.place (subst (λ xs. IsFirstRefused xs (length front + among.within) refusal) (sym whole) there)

pub refused_by_parts : (sources : List Source) (parts : List (List Source)) (position : ℕ) (refusal : Refusal) → IsCut sources parts
    → IsFirstRefused sources position refusal ↔ IsFirstRefusedAmong parts position refusal
refused_by_parts sources parts position refusal cut = (
  λ first. refused_in parts position refusal (subst (λ xs. IsFirstRefused xs position refusal) (sym cut) first),
  λ among. subst (λ xs. IsFirstRefused xs position refusal) cut (refused_in_whole parts position refusal among),
)

-- ---- what stands for it

-- what stands for the parts in a row is the join of what stands for each
join_of_parts : (parts : List (List Source)) (configurations : List Configuration) (whole : Configuration) → AllZip StandsFor parts configurations → StandsFor (in_a_row parts) whole → IsJoinOf configurations whole
join_of_parts parts configurations whole stand (asked, read, stands) =
    let (others, other_read, joined) = all_seen (λ list. list) (λ c. c) parts configurations stand in
    let join = total join_configurations neutral_seen (map seen_configuration configurations) in
    let same = all_read_once (in_a_row parts) others asked other_read read in
    let seen = seen_once (in_a_row parts) asked (seen_configuration whole) join read (seen_of asked whole stands) (subst (λ xs. StandsSeen xs join) same joined) in
    record {
      roles = ap (λ (s : SeenConfiguration). s.roles) seen;
      experimental = record { same = ap (λ (s : SeenConfiguration). s.experimental) seen; in_order = stands.known.in_order };
    }

pub stands_by_parts : (sources : List Source) (parts : List (List Source)) (configurations : List Configuration) (whole : Configuration) → IsCut sources parts → AllZip StandsFor parts configurations
    → StandsFor sources whole ↔ IsJoinOf configurations whole
stands_by_parts sources parts configurations whole cut stand = (
  λ stands. join_of_parts parts configurations whole stand (subst (λ xs. StandsFor xs whole) (sym cut) stands),
  λ is. subst (λ xs. StandsFor xs whole) cut (stands_in_a_row (λ list. list) (λ c. c) parts configurations whole stand is),
)

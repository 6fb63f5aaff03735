-- A list of sources reads, or has one first refused position, with one error.
use Rattle.std.proofs.Common.{◌≡◌, ◌⊎◌, ℕ, suc, List, [], ◌∷◌, ◌++◌, length, refl, sym, ap, ◌∙◌, subst, inl, inr, rules}
use Rattle.nextest_config.specs.NextestVersion.Source.{Source}
use Rattle.nextest_config.specs.NextestVersion.{AreRead, IsFirstRefused, IsReadAs, IsRefused, Reads, Refusal, SourceAsk}
use Rattle.nextest_config.specs.NextestVersion.VersionOnlyLaws.{one_error, read_not_refused, read_or_refused}
use Rattle.nextest_config.proofs.Lists.{zip_middle}

pub none_refused : (before : List Source) (source : Source) (after : List Source) (asked : List SourceAsk) (refusal : Refusal) → AreRead (before ++ (source ∷ after)) asked → IsRefused source refusal → ⊥
none_refused before source after asked refusal read refused =
    let found = zip_middle IsReadAs before source after asked read in
    read_not_refused source found.0.ask refusal found.1.read refused

reads_after : (source : Source) (sources : List Source) → Reads (source ∷ sources) → Reads sources
reads_after source sources h2 = search rules

-- two refused sources after sources that read are one
one_place : (b c : List Source) (s t : Source) (a d : List Source) (r q : Refusal) → b ++ (s ∷ a) ≡ c ++ (t ∷ d) → Reads b → Reads c → IsRefused s r → IsRefused t q → (b ≡ c) × (s ≡ t)
one_place [] [] s t a d r q same h k refused also = (refl, cc same)
one_place [] (y ∷ c) s t a d r q same h k refused also =
    let is : y ≡ s = cc same in
    absurd (none_refused [] y c k.0 r k.1 (subst (λ (x : Source). IsRefused x r) (sym is) refused))
one_place (x ∷ b) [] s t a d r q same h k refused also =
    let is : x ≡ t = cc same in
    absurd (none_refused [] x b h.0 q h.1 (subst (λ (y : Source). IsRefused y q) (sym is) also))
one_place (x ∷ b) (y ∷ c) s t a d r q same h k refused also =
    let head : x ≡ y = cc same in
    let rest : b ++ (s ∷ a) ≡ c ++ (t ∷ d) = cc same in
    let found = one_place b c s t a d r q rest (reads_after x b h) (reads_after y c k) refused also in
    (rw (head, found.0) refl, found.1)

pub refusal_once : (sources : List Source) (i k : ℕ) (refusal other : Refusal) → IsFirstRefused sources i refusal → IsFirstRefused sources k other → (i ≡ k) × (refusal ≡ other)
refusal_once sources i k refusal other first also =
    let found = one_place first.before also.before first.source also.source first.after also.after refusal other (sym first.whole ∙ also.whole) first.read also.read first.refused also.refused in (
      sym first.place ∙ ap length found.0 ∙ also.place,
      one_error also.source refusal other (subst (λ (s : Source). IsRefused s refusal) found.1 first.refused) also.refused,
    )

-- ---- one of both

pub reads_not_refused : (sources : List Source) (position : ℕ) (refusal : Refusal) → Reads sources → IsFirstRefused sources position refusal → ⊥
reads_not_refused sources position refusal (asked, read) first =
    none_refused first.before first.source first.after asked refusal (subst (λ (all : List Source). AreRead all asked) first.whole read) first.refused

refused_after : (source : Source) (a : SourceAsk) (sources : List Source) (position : ℕ) (refusal : Refusal) → IsReadAs source a → IsFirstRefused sources position refusal
    → IsFirstRefused (source ∷ sources) (suc position) refusal
refused_after source a sources position refusal read first = record {
  before = source ∷ first.before;
  source = first.source;
  after = first.after;
  whole = ap (λ rest. source ∷ rest) first.whole;
  place = ap suc first.place;
  read = (a ∷ first.read.0, (read, first.read.1));
  refused = first.refused;
}

pub reads_or_refused : (sources : List Source) → Reads sources ⊎ ((position : ℕ) × (refusal : Refusal) × IsFirstRefused sources position refusal)
reads_or_refused [] = inl ([], tt)
reads_or_refused (source ∷ sources) = elim (read_or_refused source) [
  | inl (a, read) ↦ elim (reads_or_refused sources) [
    | inl (asked, all) ↦ inl (a ∷ asked, (read, all))
    | inr (position, refusal, first) ↦ inr (suc position, refusal, refused_after source a sources position refusal read first)
  ]
  | inr (refusal, refused) ↦ inr (0, refusal, record { before = []; source = source; after = sources; whole = refl; place = refl; read = ([], tt); refused = refused })
]

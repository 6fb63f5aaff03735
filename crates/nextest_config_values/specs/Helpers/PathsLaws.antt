-- The segments of a path between slashes; each text is a relative path, or isn't; and what TOML
-- values mean as relative paths.
use Rattle.std.proofs.Common.{◌≡◌, ◌≢◌, ◌⊎◌, ◌↔◌, ℕ, ◌<◌, eqb, Bool, List, [], ◌∷◌, ◌++◌, codes, length, refl, sym, ap, ◌∙◌, inl, inr, append_assoc, arith}
use Rattle.std.proofs.lemmas.Bool.{cases_Bool}
use Rattle.std.proofs.lemmas.List.Splits.{join_with_byte-slice_split, length-slice_split, slice_split-cons_no, slice_split-cons_yes}
use Rattle.std.specs.List.{AllByRecursion, join_with_byte, onto_first, slice_split}
use Rattle.toml.specs.Data.{Data, as_str}
use Rattle.nextest_config_values.specs.Decisions.{all_decided, both_decided, IsDecided, IsFoundOrNone, not_decided, same_decided, same_text_decided}
use Rattle.nextest_config_values.specs.Helpers.Paths.{BeginsWithSlash, EndsWithSlash, HasParentSegment, IsRelativePath}
use Rattle.nextest_config_values.specs.Read.Fault.{wrong_value}
use Rattle.nextest_config_values.specs.Read.FromToml.{Reading}
use Rattle.nextest_config_values.specs.Read.Plain.{text_expected}
use Rattle.nextest_config_values.specs.Read.Readings.{in_memory, kind, one_that, wrong_kind}

-- the byte is a slash
abbrev pub is_slash : ℕ → Bool
is_slash b = eqb b 47

-- the segments of a path, which stand between its slashes, as `split` gives them
abbrev pub segments : List ℕ → List (List ℕ)
segments = slice_split is_slash

abbrev IsFront : List ℕ → Type 0
IsFront before = (before ≡ []) ⊎ EndsWithSlash before

abbrev AreNames : List (List ℕ) → Type 0
AreNames = AllByRecursion (λ segment. segment ≢ codes "..")

-- without a segment `..` in the text, no part is it, whatever whole segments stand before the parts
all_names : (parts : List (List ℕ)) (before : List ℕ) → IsFront before
    → ¬ (HasParentSegment (before ++ join_with_byte 47 parts)) → AreNames parts
all_names [] before front none = tt
all_names (part ∷ []) before front none = (
  λ e. none (record {
    before = before;
    after = [];
    whole = rw e refl;
    begins = front;
    ends = inl refl;
  }),
  tt,
)
all_names (part ∷ next ∷ parts) before front none =
    let behind = join_with_byte 47 (next ∷ parts) in
    let moved : (before ++ (part ++ (47 ∷ []))) ++ behind ≡ before ++ (part ++ (47 ∷ behind)) =
    append_assoc before (part ++ (47 ∷ [])) behind
    ∙ ap (λ rest. before ++ rest) (append_assoc part (47 ∷ []) behind) in (
      λ e. none (record {
        before = before;
        after = 47 ∷ behind;
        whole = rw e refl;
        begins = front;
        ends = inr (behind, refl);
      }),
      all_names (next ∷ parts) (before ++ (part ++ (47 ∷ [])))
          (inr (before ++ part, sym (append_assoc before part (47 ∷ [])))) (rw moved none),
    )

-- ---- the other way

onto_joined : (b : ℕ) (parts more : List (List ℕ)) → 0 < length parts
    → onto_first b (parts ++ more) ≡ onto_first b parts ++ more
onto_joined b [] more some = absurd (omega arith)
onto_joined b (part ∷ parts) more some = refl

segments_joined : (front rest : List ℕ)
    → segments (front ++ (47 ∷ rest)) ≡ segments front ++ segments rest
segments_joined [] rest = refl
segments_joined (b ∷ front) rest = elim (cases_Bool (is_slash b)) [
  | inl slash ↦
      rw (
        slice_split-cons_yes is_slash b (front ++ (47 ∷ rest)) slash,
        slice_split-cons_yes is_slash b front slash,
        segments_joined front rest,
      ) refl
  | inr other ↦
      rw (
        slice_split-cons_no is_slash b (front ++ (47 ∷ rest)) other,
        slice_split-cons_no is_slash b front other,
        segments_joined front rest,
      )
      (onto_joined b (segments front) (segments rest)
      (omega (arith, length-slice_split is_slash front)))
]

parent_first : (after : List ℕ) → (after ≡ []) ⊎ BeginsWithSlash after
    → (more : List (List ℕ)) × (segments (codes ".." ++ after) ≡ codes ".." ∷ more)
parent_first after (inl end) = ([], rw end refl)
parent_first after (inr slash) =
    (segments slash.0, rw slash.1 (segments_joined (codes "..") slash.0))

after_front : (before rest : List ℕ) → IsFront before
    → (fronts : List (List ℕ)) × (segments (before ++ rest) ≡ fronts ++ segments rest)
after_front before rest (inl start) = ([], rw start refl)
after_front before rest (inr slash) = (
  segments slash.0,
  rw (slash.1, append_assoc slash.0 (47 ∷ []) rest)
      (segments_joined slash.0 rest),
)

not_parent : (fronts : List (List ℕ)) (name : List ℕ) (more : List (List ℕ))
    → AreNames (fronts ++ (name ∷ more)) → name ≢ codes ".."
not_parent [] name more h = h.0
not_parent (front ∷ fronts) name more h = not_parent fronts name more h.1

no_parent : (text : List ℕ) → AreNames (segments text) → ¬ (HasParentSegment text)
no_parent text names h =
    let first = parent_first h.after h.ends in
    let whole = after_front h.before (codes ".." ++ h.after) h.begins in
    not_parent whole.0 (codes "..") first.0 (rw (h.whole, whole.1, first.1) at names) refl

-- no segment is `..`, said of the segments and of the text
pub tells_no_parent : (text : List ℕ) → AreNames (segments text) ↔ ¬ (HasParentSegment text)
tells_no_parent text = (
  no_parent text,
  λ none. all_names (segments text) [] (inl refl)
      (rw (join_with_byte-slice_split 47 text) none),
)

-- ---- each text is a relative path, or isn't

pub begins_decided : (text : List ℕ) → IsDecided (BeginsWithSlash text)
begins_decided [] = inr (λ begins. cc begins.1)
begins_decided (b ∷ text) = elim (same_decided b 47) [
  | inl is ↦ inl (text, ap (λ x. x ∷ text) is)
  | inr not ↦ inr (λ begins. not (cc begins.1))
]

no_parent_decided : (text : List ℕ) → IsDecided (AreNames (segments text))
    → IsDecided (¬ HasParentSegment text)
no_parent_decided text (inl names) = inl ((tells_no_parent text).0 names)
no_parent_decided text (inr some) = inr (λ none. some ((tells_no_parent text).1 none))

relative_decided : (text : List ℕ) → IsDecided (IsRelativePath text)
relative_decided text = both_decided (not_decided (begins_decided text))
    (no_parent_decided text
    (all_decided (λ segment. not_decided (same_text_decided segment (codes ".."))) (segments text)))

path_found : (held : List ℕ) → IsDecided (IsRelativePath held)
    → IsFoundOrNone (λ path. (path ≡ held) × IsRelativePath held)
path_found held (inl relative) = inl (held, (refl, relative))
path_found held (inr not) = inr (λ path meant. not meant.1)

pub path_or_none : (held : List ℕ) → IsFoundOrNone (λ path. (path ≡ held) × IsRelativePath held)
path_or_none held = path_found held (relative_decided held)

-- a text that is a relative path, as it is written
abbrev pub relative_path_in : List ℕ → Reading Data (List ℕ)
relative_path_in held =
    in_memory (one_that (λ path. (path ≡ held) × IsRelativePath held) (λ x y a b. a.0 ∙ sym b.0)
    (path_or_none held)
    (λ value. wrong_value value (codes "a relative path with no parent components")))

-- the reading of a relative path: a text that is one, kept as it is written
abbrev pub relative_path_reading : Reading Data (List ℕ)
relative_path_reading = kind as_str relative_path_in (wrong_kind text_expected)

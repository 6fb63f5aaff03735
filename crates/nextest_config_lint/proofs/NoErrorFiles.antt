-- Where no finding of a file is an error.
use mathlib.Core.Logic.Iff as iff
use Rattle.std.specs.Prelude.{◌≡◌, ◌↔◌, ℕ, List, [], ◌∷◌, Option, Some, None}
use Rattle.std.proofs.Common.{ap, refl, rules, sym, ◌∙◌, inl, inr}
use Rattle.std.proofs.lemmas.List.Elements.{All-from_recursion, recursion_from_All}
use Rattle.std.proofs.lemmas.List.Sorted.{All-permutation, IsPermutation-sym}
use Rattle.std.proofs.lemmas.Option.{none-some, same_Some}
use Rattle.std.specs.List.{AllByRecursion, AllZip}
use Rattle.std.specs.List.Sorted.{IsPermutation}
use Rattle.toml.specs.Data.{Members}
use Rattle.toml.specs.Parse.{parse_document}
use Rattle.nextest_config.specs.declared.nextest_version.edition.Edition.{Edition}
use Rattle.nextest_config.specs.declared.nextest_version.source.ConfigSourceKind.{ConfigSourceKind}
use Rattle.toml_spans.specs.declared.place.Span.{Span}
use Rattle.nextest_config_lint.proofs.Severities.{severity_reported}
use Rattle.nextest_config_lint.proofs.NoErrors.{no_error_in}
use Rattle.nextest_config_lint.specs.Defined.{ListFile}
use Rattle.nextest_config_lint.specs.File.{AreInText, AreLocated, AreLocatedIn, IsAlone, IsAtRange}
use Rattle.nextest_config_lint.specs.FindingsLaws.{IsFileWithoutError, IsNoLocatedError, IsNoError, IsWithoutError}
use Rattle.nextest_config_lint.specs.Found.{Found, found_at, FoundKind, found_of, found_severity, not_toml, not_utf8}
use Rattle.nextest_config_lint.specs.declared.file.LocatedFinding.{LocatedFinding}
use Rattle.nextest_config_lint.specs.declared.finding.FindingSeverity.TheVariants.{Error}

-- none of these located findings is an error
abbrev AreNoLocatedErrors : List LocatedFinding → Type 0
AreNoLocatedErrors located = AllByRecursion IsNoLocatedError located

-- so are they in another order
reordered : (before sorted : List LocatedFinding) → IsPermutation before sorted → AreNoLocatedErrors before → AreNoLocatedErrors sorted
reordered before sorted same h = recursion_from_All IsNoLocatedError sorted (All-permutation IsNoLocatedError before sorted same (All-from_recursion IsNoLocatedError before h))

-- ---- a file that is no document

abbrev first_reported : List (Span × Option Found) → Option Found
first_reported [] = None
first_reported (reported ∷ rest) = reported.1

-- the one finding of a file is an error
alone_grave : (before front : List ℕ) (kind : FoundKind) → found_severity kind ≡ Error → (located : List LocatedFinding)
    → IsAlone before front kind located → AreNoLocatedErrors located → ⊥
alone_grave before front kind grave [] is h = cc (is.reported)
alone_grave before front kind grave (one ∷ rest) is h =
    let reported : found_of one.finding ≡ Some (found_at [] kind) = ap first_reported is.reported in
    let grave_too = severity_reported one.finding (found_at [] kind) reported in
    h.0 (grave_too ∙ grave)

-- ---- the findings of a document

-- located findings are warnings exactly where what they tell is
reported_warned : (contents : List ℕ) (all_found : List Found) (located : List LocatedFinding) → AllZip (IsAtRange contents) all_found located
    → AreNoLocatedErrors located ↔ AllByRecursion IsNoError all_found
reported_warned contents [] [] at = iff.rfl
reported_warned contents (found ∷ all_found) (one ∷ located) at =
    let grave = severity_reported one.finding found at.0.reported in
    iff.and (λ h is. h (grave ∙ is), λ h is. h (sym grave ∙ is)) (reported_warned contents all_found located at.1)
reported_warned contents all_found located at = search rules

located_warned : (edition : Edition) (kind : ConfigSourceKind) (files : List ListFile) (position : ℕ) (contents : List ℕ) (members : Members) (located : List LocatedFinding)
    → AreLocatedIn edition kind files position contents members located → AreNoLocatedErrors located ↔ IsWithoutError edition kind members
located_warned edition kind files position contents members located are =
    let reported = reported_warned contents are.all_found are.before are.at_ranges in
    let well = no_error_in edition kind files position members are.all_found are.are_findings in (
      λ h. well.0 (reported.0 (reordered located are.before (IsPermutation-sym are.before located are.sorted.same) h)),
      λ h. reordered are.before located are.sorted.same (reported.1 (well.1 h)),
    )

-- ---- a file

in_text_warned : (edition : Edition) (kind : ConfigSourceKind) (files : List ListFile) (position : ℕ) (contents : List ℕ) (read : Option Members) (located : List LocatedFinding)
    → AreInText edition kind files position contents read located
    → AreNoLocatedErrors located ↔ ((members : Members) × (read ≡ Some members) × IsWithoutError edition kind members)
in_text_warned edition kind files position contents None located is = (
  λ h. absurd (alone_grave _ _ (not_toml is.reported.message is.reported.mistake) refl located is.reported.alone h),
  λ h. absurd (none-some h.0 h.1),
)
in_text_warned edition kind files position contents (Some members) located are =
    let warned = located_warned edition kind files position contents members located are in (
      λ h. (members, refl, warned.0 h),
      λ h. warned.1 (rw (same_Some members h.0 h.1) h.2),
    )

pub no_error_in_file : (edition : Edition) (kind : ConfigSourceKind) (files : List ListFile) (position : ℕ) (contents : List ℕ) (located : List LocatedFinding) → AreLocated edition kind files position contents located
    → AreNoLocatedErrors located ↔ IsFileWithoutError edition kind contents
no_error_in_file edition kind files position contents located (inl (utf8, are)) =
    let warned = in_text_warned edition kind files position contents (parse_document contents) located are in
    (λ h. (utf8, warned.0 h), λ h. warned.1 h.1)
no_error_in_file edition kind files position contents located (inr (bad, is)) =
    (λ h. absurd (alone_grave _ _ not_utf8 refl located is h), λ h. absurd (bad h.0))

-- Where findings stand in a text.
use Rattle.std.proofs.Common.{◌≡◌, ◌⊎◌, ℕ, Bool, true, false, List, [], ◌∷◌, IsSome, Option, Some, None, inl, inr, refl, rules, sym, ◌∙◌}
use Rattle.std.proofs.lemmas.Option.{none-some}
use Rattle.std.specs.List.{AllByRecursion, AllZip}
use Rattle.std.specs.Option.{option_or}
use Rattle.toml.specs.Data.{Members}
use Rattle.toml_spans.specs.Index.{IsSpanOf, ranges_in}
use Rattle.toml_spans.specs.Ranges.{HasEntry, HaveEntries, Range, Ranges}
use Rattle.toml_spans.specs.Step.{PathStep}
use Rattle.toml_spans.specs.declared.index.Index.{Index}
use Rattle.toml_spans.specs.declared.place.Span.{Span}
use Rattle.nextest_config_lint.specs.File.{HasRange, is_of_key, IsAtRange, IsIn, IsLocated, range_at, range_of, whole_path}
use Rattle.nextest_config_lint.specs.FindingsLaws.{LeadsToValue}
use Rattle.nextest_config_lint.specs.Found.{Found, Reports}
use Rattle.nextest_config_lint.specs.declared.file.LocatedFinding.{LocatedFinding}
use Rattle.nextest_config_lint.specs.declared.finding.Finding.{Finding}

-- ---- the range of a path

-- of two ranges the first, where there is one
pub first_of_two : (text : List ℕ) (one other : Option Range) (answer : Option Span) (span : Span) → IsSpanOf text one answer → answer ≡ Some span
    → IsSpanOf text (option_or one other) (Some span)
first_of_two text (Some range) other answer span (places, is, stands) same = (places, sym same ∙ is, stands)
first_of_two text None other answer span is same = absurd (none-some span (sym is ∙ same))

-- of two ranges the other, where the first one is none
pub last_of_two : (text : List ℕ) (one other : Option Range) (span : Span) → IsSpanOf text one None → IsSpanOf text other (Some span)
    → IsSpanOf text (option_or one other) (Some span)
last_of_two text None other span none stands = stands
last_of_two text (Some range) other span (places, is, at) stands = absurd (none-some places is)

-- what has a range has a span
pub has_span : (text : List ℕ) (range : Option Range) → IsSome range → IsSpanOf text range None → ⊥
has_span text (Some range) some (places, is, stands) = none-some places is
has_span text None some is = cc some

-- ---- findings that have a range

-- findings that tell what stands at values of a document are in it
pub all_in : (top : Members) (findings : List Finding) (all_found : List Found) → Reports findings all_found
    → AllByRecursion (LeadsToValue top) all_found → AllByRecursion (IsIn top) findings
all_in top [] all_found reported lead = tt
all_in top (finding ∷ findings) (found ∷ all_found) reported lead = ((found, cc reported, lead.0), all_in top findings all_found (cc reported) lead.1)
all_in top (finding ∷ findings) [] reported lead = absurd (cc reported)

one_of_two : (one other : Option Range) → IsSome one ⊎ IsSome other → IsSome (option_or one other)
one_of_two (Some range) other some = refl
one_of_two None other (inl some) = absurd (cc some)
one_of_two None other (inr some) = some

swapped : {P Q : Type 0} → P ⊎ Q → Q ⊎ P
swapped (inl p) = inr p
swapped (inr q) = inl q

entry_at : (of_key : Bool) (ranges : Ranges) (path : List PathStep) → HasEntry ranges path → IsSome (range_at of_key ranges path)
entry_at true ranges path entry = one_of_two (ranges.of_key path) (ranges.of_value path) entry
entry_at false ranges path entry = one_of_two (ranges.of_value path) (ranges.of_key path) (swapped entry)

-- what stands at a value has a range
in_range : (top : Members) (ranges : Ranges) → HaveEntries top ranges → (found : Found) → LeadsToValue top found → IsSome (range_of ranges found)
in_range top ranges entries found leads = entry_at (is_of_key found) ranges (whole_path found) ((entries (whole_path found)).1 leads)

pub all_in_range : (top : Members) (index : Index) → HaveEntries top (ranges_in index) → (findings : List Finding) → AllByRecursion (IsIn top) findings
    → AllByRecursion (HasRange index) findings
all_in_range top index entries [] are = tt
all_in_range top index entries (finding ∷ findings) ((found, reported, leads), are) =
    ((found, reported, in_range top (ranges_in index) entries found leads), all_in_range top index entries findings are)

-- ---- findings at their ranges

-- findings at the ranges of what they tell
pub all_at_ranges : (contents : List ℕ) (findings : List Finding) (located : List LocatedFinding) → AllZip (IsLocated contents) findings located
    → (all_found : List Found) → Reports findings all_found → AllZip (IsAtRange contents) all_found located
all_at_ranges contents [] [] placed [] reported = tt
all_at_ranges contents (finding ∷ findings) (one ∷ located) placed (found ∷ all_found) reported =
    (placed.0 found (cc reported), all_at_ranges contents findings located placed.1 all_found (cc reported))
all_at_ranges contents findings located placed all_found reported = search rules

-- One fault, and its range of bytes.
use Rattle.std.proofs.Common.{◌≡◌, ℕ, ◌+◌, true, List, [], ◌∷◌, ◌++◌, length, Option, refl, sym, ap, ◌∙◌, subst, arith, append_assoc, length-append}
use Rattle.std.specs.Prelude.{encode_utf8_all}
use Rattle.std.proofs.lemmas.List.{append_cancel_right}
use Rattle.std.proofs.lemmas.Str.{encodes-append, encodes-chars, IsCharBoundary-at_seam, scalars-chars}
use lib.Utf8.{scalar}
use Rattle.std.specs.Str.{all_scalars, chars, IsCharBoundary, IsUtf8}
use Rattle.nextest_config_values.specs.NearestWord.{nearest_once}
use Rattle.nextest_config_filters.specs.Fault.{Fault, filter, found_of, IsRangeIn}
use Rattle.nextest_config_filters.specs.Filter.Fault.{IsFaultOf, IsFilterFault}
use Rattle.nextest_config_filters.specs.Filter.Hint.{IsByNearest, IsHint, name_hint, predicate_hint}
use Rattle.nextest_config_filters.specs.Filter.Predicate.{suggested}
use Rattle.nextest_config_filters.specs.Filter.Reading.{FaultAt}
use Rattle.nextest_config_filters.specs.Front.{bytes_of}
use Rattle.nextest_config_filters.specs.declared.fault.Expected.{Expected}
use Rattle.nextest_config_filters.specs.declared.fault.Expected.TheVariants as expect
use Rattle.nextest_config_filters.specs.declared.fault.FilterFlaw.{FilterFlaw}
use Rattle.nextest_config_filters.specs.declared.fault.FilterFlaw.TheVariants as flaws
use Rattle.nextest_config_filters.specs.declared.filter.FilterPlace.{FilterPlace}
use Rattle.nextest_config_filters.proofs.Filters.Steps.{reported_once}
use Rattle.nextest_config_filters.proofs.Tests.{second_true}

pub bytes_joined : (front cs : List ℕ) → bytes_of (front ++ cs) ≡ bytes_of front + bytes_of cs
bytes_joined front cs =
    ap length (encodes-append front cs) ∙ length-append (encode_utf8_all front) (encode_utf8_all cs)

pub bytes_of_parts : (front cs what behind : List ℕ) → cs ≡ front ++ (what ++ behind)
    → bytes_of cs ≡ bytes_of front + (bytes_of what + bytes_of behind)
bytes_of_parts front cs what behind whole =
    ap bytes_of whole ∙ bytes_joined front (what ++ behind)
    ∙ ap (λ n. bytes_of front + n) (bytes_joined what behind)

-- ---- one hint

one_by_nearest : (found : List ℕ) (hint_of : Option (List ℕ) → Option (List ℕ)) (a b : Option (List ℕ))
    → IsByNearest found hint_of a → IsByNearest found hint_of b → a ≡ b
one_by_nearest found hint_of a b (near, is_near, a_is) (other, is_other, b_is) =
    a_is ∙ ap hint_of (nearest_once suggested found near other is_near is_other) ∙ sym b_is

-- both are the same
pub as_said : (a b said : Option (List ℕ)) → a ≡ said → b ≡ said → a ≡ b
as_said a b said is also = is ∙ sym also

one_expected_hint : (text : List ℕ) (expected : Expected) (found : List ℕ) (a b : Option (List ℕ))
    → IsHint text (flaws.Unexpected expected) found a → IsHint text (flaws.Unexpected expected) found b → a ≡ b
one_expected_hint text expect.Expression found a b is also = is ∙ sym also
one_expected_hint text expect.PredicateAndArgument found a b is also =
    one_by_nearest found (predicate_hint text found) a b is also
one_expected_hint text (expect.Opening predicate) found a b is also = is ∙ sym also
one_expected_hint text expect.Operator found a b is also = is ∙ sym also
one_expected_hint text expect.HostOrTarget found a b is also = is ∙ sym also
one_expected_hint text expect.ClosingOfRegex found a b is also = is ∙ sym also

one_hint : (text : List ℕ) (flaw : FilterFlaw) (found : List ℕ) (a b : Option (List ℕ))
    → IsHint text flaw found a → IsHint text flaw found b → a ≡ b
one_hint text flaws.Empty found a b is also = is ∙ sym also
one_hint text (flaws.Unexpected expected) found a b is also = one_expected_hint text expected found a b is also
one_hint text flaws.NotClosed found a b is also = is ∙ sym also
one_hint text flaws.NotOpen found a b is also = is ∙ sym also
one_hint text flaws.UnknownPredicate found a b is also = one_by_nearest found (name_hint found) a b is also
one_hint text flaws.AsksForItself found a b is also = is ∙ sym also
one_hint text (flaws.UnwantedArgument predicate) found a b is also = is ∙ sym also
one_hint text (flaws.NoArgument predicate) found a b is also = is ∙ sym also
one_hint text (flaws.SecondArgument predicate) found a b is also = is ∙ sym also
one_hint text flaws.UnknownEscape found a b is also = is ∙ sym also
one_hint text flaws.UnknownCode found a b is also = is ∙ sym also
one_hint text flaws.RegexNotClosed found a b is also = is ∙ sym also
one_hint text flaws.InvalidRegex found a b is also = is ∙ sym also

-- ---- one fault

same_fault : (text : List ℕ) (reported : FaultAt) (a b : Fault) → IsFaultOf text reported a → IsFaultOf text reported b → a ≡ b
same_fault text reported a b one other =
    let front = append_cancel_right one.front other.front (reported.what ++ reported.behind) (sym one.whole ∙ other.whole) in
    let begin : a.begin ≡ b.begin = one.begin ∙ ap bytes_of front ∙ sym other.begin in
    let end : a.end ≡ b.end = one.end ∙ ap (λ f. bytes_of (f ++ reported.what)) front ∙ sym other.end in
    let hint : one.hint ≡ other.hint = one_hint text reported.flaw (encode_utf8_all reported.found) _ _ one.is_hint other.is_hint in
    let kind : a.kind ≡ b.kind = one.kind ∙ ap (filter reported.flaw (found_of reported.flaw (encode_utf8_all reported.found))) hint ∙ sym other.kind in
    λ i. record { begin = begin i; end = end i; kind = kind i }

pub one_fault : (place : FilterPlace) (text : List ℕ) (one other : Fault) → IsFilterFault place text one
    → IsFilterFault place text other → one ≡ other
one_fault place text one other is also =
    let same = reported_once place (chars text) is.reported also.reported is.is_reported also.is_reported in
    same_fault text also.reported one other (subst (λ reported. IsFaultOf text reported one) same is.is_fault) also.is_fault

-- ---- its range

all_behind : (front cs : List ℕ) → all_scalars (front ++ cs) ≡ true → all_scalars cs ≡ true
all_behind [] cs all = all
all_behind (c ∷ front) cs all = all_behind front cs (second_true (scalar c) (all_scalars (front ++ cs)) all)

pub border : (text front cs : List ℕ) → IsUtf8 text → chars text ≡ front ++ cs → IsCharBoundary text (bytes_of front)
border text front cs u whole =
    IsCharBoundary-at_seam text (encode_utf8_all front) (encode_utf8_all cs)
    (sym (encodes-chars text u) ∙ ap encode_utf8_all whole ∙ encodes-append front cs)
    (cs, (all_behind front cs (subst (λ all. all_scalars all ≡ true) whole (scalars-chars text u)), refl))

pub range_in_text : (place : FilterPlace) (text : List ℕ) (fault : Fault) → IsUtf8 text → IsFilterFault place text fault
    → IsRangeIn text fault.begin fault.end
range_in_text place text fault u is =
    let f = is.is_fault in
    let t = is.reported in
    let parts = bytes_of_parts f.front (chars text) t.what t.behind f.whole in
    let joined = bytes_joined f.front t.what in
    record {
      in_order = omega (arith, f.begin, f.end, joined);
      fits = omega (arith, f.end, joined, parts, ap length (encodes-chars text u));
      begins_character = rw f.begin (border text f.front (t.what ++ t.behind) u f.whole);
      ends_character = rw f.end (border text (f.front ++ t.what) t.behind u (f.whole ∙ sym (append_assoc f.front t.what t.behind)));
    }

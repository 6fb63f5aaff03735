-- One fault of a platform, and its range of bytes.
use Rattle.std.proofs.Common.{rules, ◌≡◌, ℕ, ◌+◌, Bool, true, false, inl, inr, List, length, Option, sym, ap, ◌∙◌, subst, arith}
use Rattle.std.specs.Prelude.{encode_utf8_all}
use Rattle.std.proofs.lemmas.Str.{encodes-chars}
use Rattle.std.specs.Str.{chars, IsCharBoundary, IsUtf8, skip_leading_whitespace as behind_spaces}
use Rattle.nextest_config_values.specs.NearestWord.{nearest_once}
use Rattle.nextest_config_filters.specs.Fault.{Fault, IsRangeIn, platform}
use Rattle.nextest_config_filters.specs.Front.{bytes_of}
use Rattle.nextest_config_filters.specs.Platform.Fault.{IsPlatformFault, IsPlatformFaultOf}
use Rattle.nextest_config_filters.specs.Platform.Hint.{IsHintFor, IsHintInCfg, IsPlatformHint}
use Rattle.nextest_config_filters.specs.Platform.Reading.{FaultAt}
use Rattle.nextest_config_filters.specs.Platform.Walk.{wrong}
use Rattle.nextest_config_filters.specs.declared.platform.flaw.PlatformFlaw.{PlatformFlaw}
use Rattle.nextest_config_filters.proofs.Platforms.Outcomes.{outcome_once, reported_in_text}
use Rattle.nextest_config_filters.proofs.Platforms.Rests.{IsBytes}
use Rattle.nextest_config_filters.proofs.Ranges.{as_said, border, bytes_joined}

-- ---- one fault

once_in_cfg : (text : List ℕ) (a b : Option (List ℕ)) → IsHintInCfg text a → IsHintInCfg text b → a ≡ b
once_in_cfg text a b (inl (passes, is)) (inl (again, also)) = is ∙ sym also
once_in_cfg text a b (inl (passes, is)) (inr (fails, also)) = absurd (fails passes)
once_in_cfg text a b (inr (fails, is)) (inl (passes, also)) = absurd (fails passes)
once_in_cfg text a b (inr (fails, is)) (inr (again, also)) = is ∙ sym also

once_for : (like : Bool) (text : List ℕ) (a b : Option (List ℕ)) → IsHintFor like text a → IsHintFor like text b → a ≡ b
once_for true text a b is also = is ∙ sym also
once_for false text a b is also = once_in_cfg text a b is also

one_hint : (flaw : PlatformFlaw) (found : List ℕ) (a b : Option (List ℕ)) → IsPlatformHint flaw found a
    → IsPlatformHint flaw found b → a ≡ b
one_hint flaw found a b is also = search (rules, as_said, once_for, nearest_once)

same_fault : (text : List ℕ) (reported : FaultAt) (a b : Fault) → IsPlatformFaultOf text reported a → IsPlatformFaultOf text reported b → a ≡ b
same_fault text reported a b one other =
    let begin : a.begin ≡ b.begin = omega (arith, one.begin, other.begin) in
    let end : a.end ≡ b.end = omega (arith, one.end, other.end) in
    let hint : one.hint ≡ other.hint = one_hint reported.flaw (encode_utf8_all reported.found) _ _ one.is_hint other.is_hint in
    let kind : a.kind ≡ b.kind = one.kind ∙ ap (λ h. platform reported.flaw (encode_utf8_all reported.found) h) hint ∙ sym other.kind in
    λ i. record { begin = begin i; end = end i; kind = kind i }

pub one_fault : (text : List ℕ) (one other : Fault) → IsPlatformFault text one → IsPlatformFault text other → one ≡ other
one_fault text one other is also =
    let both = outcome_once (behind_spaces (chars text)) (wrong is.reported) (wrong also.reported) is.is_reported also.is_reported in
    let same : is.reported ≡ also.reported = cc both in
    same_fault text also.reported one other (subst (λ reported. IsPlatformFaultOf text reported one) same is.is_fault) also.is_fault

-- ---- its range

-- where so many bytes are left, a character begins
border_before : (text : List ℕ) (n place : ℕ) → IsUtf8 text → IsBytes (chars text) n → place + n ≡ bytes_of (chars text)
    → IsCharBoundary text place
border_before text n place u bytes is =
    let front = bytes.rest.0 in
    let parts = ap bytes_of bytes.rest.1 ∙ bytes_joined front bytes.part in
    let same : place ≡ bytes_of front = omega (arith, is, parts, bytes.size) in
    rw same (border text front bytes.part u bytes.rest.1)

pub range_in_text : (text : List ℕ) (own : Fault) → IsUtf8 text → IsPlatformFault text own → IsRangeIn text own.begin own.end
range_in_text text own u is =
    let cs = chars text in
    let fault = is.is_fault in
    let reported = reported_in_text cs is.reported is.is_reported in
    record {
      in_order = omega (arith, fault.begin, fault.end, reported.in_order);
      fits = omega (arith, fault.end, ap length (encodes-chars text u));
      begins_character = border_before text is.reported.from own.begin u reported.from fault.begin;
      ends_character = border_before text is.reported.behind own.end u reported.behind fault.end;
    }

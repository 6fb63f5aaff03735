-- The laws of version texts, and version texts beside what `semver` reads.
use Rattle.std.proofs.Common.{◌≡◌, ◌≢◌, ◌⊎◌, ℕ, zero, suc, ◌+◌, ◌<◌, ◌^◌, List, [], ◌∷◌, ◌++◌, length, get_or, take, drop, Err, Ok, IsErr, Result, refl, sym, ap, ap₂, ◌∙◌, subst, inl, inr, arith, rules, append_assoc}
use Rattle.std.proofs.lemmas.Bool.{false≢true}
use Rattle.std.proofs.lemmas.Fmt.{decimal-digits_value, decimal_is_IsNumeral, decimal_digit, decimal_nonempty, first_decimal}
use Rattle.std.proofs.lemmas.List.{append-nil, drop_more, take-append-drop}
use Rattle.std.proofs.lemmas.Str.Parse.{IsNumeralModel, numerals_by_value, tells_digits}
use Rattle.std.specs.Fmt.{decimal}
use Rattle.std.specs.List.{AllByRecursion}
use Rattle.std.specs.Str.Parse.{AllDigits, digits_value}
use Rattle.semver.proofs.Grammar.{version_parts-sound, version_parts-complete}
use Rattle.semver.specs.Identifiers.{marked, parts_text}
use Rattle.semver.specs.Parse.{Parts, version_parts}
use Rattle.semver.specs.declared.error.Error.{Error}
use Rattle.toml.specs.Data.{Data, as_str}
use Rattle.nextest_config_values.specs.Decisions.{same_decided}
use Rattle.nextest_config_values.specs.Once.{HasMeaningOrFault, HasOneMeaningOrFault}
use Rattle.nextest_config_values.specs.Read.Fault.{Fault}
use Rattle.nextest_config_values.specs.Read.{Always, broken_by, BrokenRule, build_metadata, inner, kind, not_version, pre_release, Reading, text_expected, wrong_kind}
use Rattle.nextest_config.specs.NextestVersion.VersionText.{Numbers, plain, dot, hyphen, plus_sign, IsNumeral, IsThree, IsTwo, IsVersionText, IsPlain, HasFirstMark, HasVersion, IsVersionFault}
use Rattle.toml_spans.proofs.Elements.{all_right, all_joined, all_middle}

own : IsNumeralModel (AllDigits 10) (digits_value 10)
own = numerals_by_value (AllDigits 10) tells_digits

pub numeral_text : (text : List ℕ) (n : ℕ) → IsNumeral text n → text ≡ decimal n
numeral_text text n h =
    let fits : digits_value 10 text < 2 ^ 64 = rw h.value h.fits in
    sym (decimal-digits_value own text h.digits h.some h.no_leading_zero fits) ∙ ap decimal h.value

no_leading_zero : (n : ℕ) → n < 2 ^ 64 → get_or (decimal n) 0 0 ≡ 48 → length (decimal n) ≡ 1
no_leading_zero zero small first = rw (decimal_digit 0 (omega arith)) refl
no_leading_zero (suc n) small first =
    absurd (omega (arith, first_decimal (suc n) (omega arith) small))

pub decimal_numeral : (n : ℕ) → n < 2 ^ 64 → IsNumeral (decimal n) n
decimal_numeral n small =
    let model = decimal_is_IsNumeral n small in
    record {
      some = decimal_nonempty n small;
      digits = model.0.1;
      no_leading_zero = no_leading_zero n small;
      value = model.1;
      fits = small;
    }

-- ---- bytes of numerals

abbrev NotDot : ℕ → Type 0
NotDot byte = byte ≢ dot

digits_no_dot : (ds : List ℕ) → AllDigits 10 ds → AllByRecursion NotDot ds
digits_no_dot [] h = tt
digits_no_dot (b ∷ ds) h = (λ e. absurd (omega (arith, rw e at h.0)), digits_no_dot ds h.1)

digits_plain : (ds : List ℕ) → AllDigits 10 ds → AllByRecursion IsPlain ds
digits_plain [] h = tt
digits_plain (b ∷ ds) h = (
  (λ e. absurd (omega (arith, rw e at h.0)), λ e. absurd (omega (arith, rw e at h.0))),
  digits_plain ds h.1,
)

dot_plain : IsPlain dot
dot_plain = (λ e. cc e, λ e. cc e)

-- a text is cut at its last dot in one way
cut_last : (x y u v : List ℕ) → x ++ (dot ∷ u) ≡ y ++ (dot ∷ v) → AllByRecursion NotDot u
    → AllByRecursion NotDot v → (x ≡ y) × (u ≡ v)
cut_last [] [] u v e a b = (refl, cc e)
cut_last [] (c ∷ y) u v e a b =
    let rest : u ≡ y ++ (dot ∷ v) = cc e in
    absurd (all_middle NotDot y dot v (subst (AllByRecursion NotDot) rest a) refl)
cut_last (c ∷ x) [] u v e a b =
    let rest : v ≡ x ++ (dot ∷ u) = cc e in
    absurd (all_middle NotDot x dot u (subst (AllByRecursion NotDot) rest b) refl)
cut_last (c ∷ x) (d ∷ y) u v e a b =
    let head : c ≡ d = cc e in
    let tail : x ++ (dot ∷ u) ≡ y ++ (dot ∷ v) = cc e in
    let more = cut_last x y u v tail a b in
    (rw (head, more.0) refl, more.1)

-- ---- three numbers

abbrev dotted_numbers : Numbers → List ℕ
dotted_numbers n = decimal n.0 ++ (dot ∷ (decimal n.1 ++ (dot ∷ decimal n.2)))

plain_text : (n : Numbers) → parts_text (plain n) ≡ dotted_numbers n
plain_text n = rw append-nil

three_text : (text : List ℕ) (n : Numbers) → IsThree text n → text ≡ dotted_numbers n
three_text text n h =
    rw (
      ← numeral_text h.major n.0 h.major_is,
      ← numeral_text h.minor n.1 h.minor_is,
      ← numeral_text h.patch n.2 h.patch_is,
    ) h.whole

pub three_read : (text : List ℕ) (n : Numbers) → IsThree text n → version_parts text ≡ Ok (plain n)
three_read text n h =
    subst (λ (t : List ℕ). version_parts t ≡ Ok (plain n))
    (plain_text n ∙ sym (three_text text n h))
    (version_parts-complete (plain n) (
      h.major_is.fits,
      h.minor_is.fits,
      h.patch_is.fits,
      refl,
      refl,
    ))

no_marks : (pre build : List ℕ)
    → AllByRecursion IsPlain (marked hyphen pre ++ marked plus_sign build) → (pre ≡ [])
    × (build ≡ [])
no_marks [] [] h = (refl, refl)
no_marks [] (b ∷ build) h = absurd (h.0.1 refl)
no_marks (b ∷ pre) build h = absurd (h.0.0 refl)

plain_parts : (p : Parts) → p.3 ≡ [] → p.4 ≡ [] → p ≡ plain (p.0, p.1, p.2)
plain_parts p no_pre no_build =
    ap₂ (λ (pre build : List ℕ). (p.0, p.1, p.2, pre, build)) no_pre no_build

pub read_three : (text : List ℕ) (p : Parts) → AllByRecursion IsPlain text
    → version_parts text ≡ Ok p → (numbers : Numbers) × IsThree text numbers × (p ≡ plain numbers)
read_three text p unmarked read =
    let sound = version_parts-sound text p read in
    let all = subst (AllByRecursion IsPlain) (sym sound.0) unmarked in
    let from_minor = (all_right IsPlain (decimal p.0) _ all).1 in
    let from_patch = (all_right IsPlain (decimal p.1) _ from_minor).1 in
    let none = no_marks p.3 p.4 (all_right IsPlain (decimal p.2) _ from_patch) in
    let same = plain_parts p none.0 none.1 in
    let three : IsThree text (p.0, p.1, p.2) = record {
      major = decimal p.0;
      minor = decimal p.1;
      patch = decimal p.2;
      whole = sym sound.0 ∙ ap parts_text same ∙ plain_text (p.0, p.1, p.2);
      major_is = decimal_numeral p.0 sound.1.0;
      minor_is = decimal_numeral p.1 sound.1.1;
      patch_is = decimal_numeral p.2 sound.1.2;
    } in
    ((p.0, p.1, p.2), three, same)

-- ---- two numbers

-- the text of a third number, zero, and the dot before it
abbrev pub third : List ℕ
third = dot ∷ 48 ∷ []

zero_numeral : IsNumeral (48 ∷ []) 0
zero_numeral = subst (λ (t : List ℕ). IsNumeral t 0) (decimal_digit 0 (omega arith))
    (decimal_numeral 0 (omega arith))

two_is_three : (text : List ℕ) (n : Numbers) → IsTwo text n → IsThree (text ++ third) n
two_is_three text n h =
    let whole : text ++ third ≡ h.major ++ (dot ∷ (h.minor ++ third)) =
    rw h.whole (append_assoc h.major (dot ∷ h.minor) third) in
    let patch_is : IsNumeral (48 ∷ []) n.2 = rw h.patch_is zero_numeral in
    record {
      major = h.major;
      minor = h.minor;
      patch = 48 ∷ [];
      whole = whole;
      major_is = h.major_is;
      minor_is = h.minor_is;
      patch_is = patch_is;
    }

third_plain : AllByRecursion IsPlain third
third_plain = (dot_plain, ((λ e. cc e, λ e. cc e), tt))

zero_no_dot : AllByRecursion NotDot (48 ∷ [])
zero_no_dot = (λ e. cc e, tt)

pub read_two : (text : List ℕ) (p : Parts) → AllByRecursion IsPlain text
    → version_parts (text ++ third) ≡ Ok p → (numbers : Numbers) × IsTwo text numbers
    × (p ≡ plain numbers)
read_two text p unmarked read =
    let (numbers, h, parts) =
    read_three (text ++ third) p (all_joined IsPlain text third unmarked third_plain) read in
    let ends : text ++ third ≡ (h.major ++ (dot ∷ h.minor)) ++ (dot ∷ h.patch) =
    h.whole ∙ sym (append_assoc h.major (dot ∷ h.minor) (dot ∷ h.patch)) in
    let cut = cut_last text (h.major ++ (dot ∷ h.minor)) (48 ∷ []) h.patch ends zero_no_dot
    (digits_no_dot h.patch h.patch_is.digits) in
    let patch_is : numbers.2 ≡ 0 = sym h.patch_is.value ∙ ap (digits_value 10) (sym cut.1) in (
      numbers,
      record {
        major = h.major;
        minor = h.minor;
        whole = cut.0;
        major_is = h.major_is;
        minor_is = h.minor_is;
        patch_is = patch_is;
      },
      parts,
    )

-- ---- one version, and no fault beside it

three_once : (text : List ℕ) (m n : Numbers) → IsThree text m → IsThree text n → m ≡ n
three_once text m n h k =
    let same : plain m ≡ plain n = cc (three_read text m h, three_read text n k) in
    ap (λ (p : Parts). (p.0, p.1, p.2)) same

-- a text isn't both `x.y.z` and `x.y`
three_or_two : (text : List ℕ) (m n : Numbers) → IsThree text m → IsTwo text n → ⊥
three_or_two text m n h k =
    let cuts : (h.major ++ (dot ∷ h.minor)) ++ (dot ∷ h.patch) ≡ k.major ++ (dot ∷ k.minor) =
    append_assoc h.major (dot ∷ h.minor) (dot ∷ h.patch) ∙ sym h.whole ∙ k.whole in
    let cut = cut_last (h.major ++ (dot ∷ h.minor)) k.major h.patch k.minor cuts
    (digits_no_dot h.patch h.patch_is.digits) (digits_no_dot k.minor k.minor_is.digits) in
    let one = subst (AllByRecursion NotDot) (sym cut.0) (digits_no_dot k.major k.major_is.digits) in
    all_middle NotDot h.major dot h.minor one refl

pub version_once : (text : List ℕ) (m n : Numbers) → IsVersionText text m → IsVersionText text n
    → m ≡ n
version_once text m n (inl h) (inl k) = three_once text m n h k
version_once text m n (inl h) (inr k) = absurd (three_or_two text m n h k)
version_once text m n (inr h) (inl k) = absurd (three_or_two text n m k h)
version_once text m n (inr h) (inr k) =
    three_once (text ++ third) m n (two_is_three text m h) (two_is_three text n k)

version_plain : (text : List ℕ) (n : Numbers) → IsVersionText text n → AllByRecursion IsPlain text
version_plain text n (inl h) =
    let patch = digits_plain h.patch h.patch_is.digits in
    let minor = all_joined IsPlain h.minor (dot ∷ h.patch) (digits_plain h.minor h.minor_is.digits)
    (dot_plain, patch) in
    rw h.whole (all_joined IsPlain h.major (dot ∷ (h.minor ++ (dot ∷ h.patch)))
    (digits_plain h.major h.major_is.digits) (dot_plain, minor))
version_plain text n (inr h) =
    let minor = digits_plain h.minor h.minor_is.digits in
    rw h.whole (all_joined IsPlain h.major (dot ∷ h.minor) (digits_plain h.major h.major_is.digits)
    (dot_plain, minor))

hyphen_is_mark : ¬ IsPlain hyphen
hyphen_is_mark p = p.0 refl

plus_is_mark : ¬ IsPlain plus_sign
plus_is_mark p = p.1 refl

not_unmarked : (mark : ℕ) (text : List ℕ) → ¬ IsPlain mark → HasFirstMark mark text
    → AllByRecursion IsPlain text → ⊥
not_unmarked mark text is_mark h plain =
    is_mark (all_middle IsPlain h.before mark h.after
    (subst (AllByRecursion IsPlain) h.whole plain))

pub version_not_fault : (text : List ℕ) (n : Numbers) (rule : BrokenRule) → IsVersionText text n
    → IsVersionFault text rule → ⊥
version_not_fault text n pre_release h k =
    not_unmarked hyphen text hyphen_is_mark k (version_plain text n h)
version_not_fault text n build_metadata h k =
    not_unmarked plus_sign text plus_is_mark k (version_plain text n h)
version_not_fault text n (not_version written) h k = k.2 n h
version_not_fault text n _ h k = absurd k

pub no_version : (text : List ℕ) → IsErr (version_parts text)
    → IsErr (version_parts (text ++ third)) → (n : Numbers) → ¬ IsVersionText text n
no_version text three two n (inl h) = absurd (false≢true (rw (three_read text n h) at three))
no_version text three two n (inr h) =
    absurd (false≢true (rw (three_read (text ++ third) n (two_is_three text n h)) at two))

-- ---- one rule

one_mark : (b d a c : List ℕ) (m n : ℕ) → b ++ (m ∷ a) ≡ d ++ (n ∷ c) → AllByRecursion IsPlain b
    → AllByRecursion IsPlain d → ¬ IsPlain m → ¬ IsPlain n → m ≡ n
one_mark [] [] a c m n e p q mark other = cc e
one_mark [] (x ∷ d) a c m n e p q mark other =
    let same : m ≡ x = cc e in
    absurd (mark (subst IsPlain (sym same) q.0))
one_mark (x ∷ b) [] a c m n e p q mark other =
    let same : x ≡ n = cc e in
    absurd (other (subst IsPlain same p.0))
one_mark (x ∷ b) (y ∷ d) a c m n e p q mark other =
    let rest : b ++ (m ∷ a) ≡ d ++ (n ∷ c) = cc e in
    one_mark b d a c m n rest p.1 q.1 mark other

not_both_marks : (text : List ℕ) → HasFirstMark hyphen text → HasFirstMark plus_sign text → ⊥
not_both_marks text h k =
    let same = one_mark h.before k.before h.after k.after hyphen plus_sign (sym h.whole ∙ k.whole)
    h.first k.first hyphen_is_mark plus_is_mark in
    cc same

pub one_rule : (text : List ℕ) (r s : BrokenRule) → IsVersionFault text r → IsVersionFault text s
    → r ≡ s
one_rule text pre_release build_metadata h k = absurd (not_both_marks text h k)
one_rule text build_metadata pre_release h k = absurd (not_both_marks text k h)
one_rule text pre_release (not_version w) h k =
    absurd (not_unmarked hyphen text hyphen_is_mark h k.1)
one_rule text build_metadata (not_version w) h k =
    absurd (not_unmarked plus_sign text plus_is_mark h k.1)
one_rule text (not_version w) pre_release h k =
    absurd (not_unmarked hyphen text hyphen_is_mark k h.1)
one_rule text (not_version w) build_metadata h k =
    absurd (not_unmarked plus_sign text plus_is_mark k h.1)
one_rule text r s h k = search rules

-- ---- each text has a version, or breaks a rule

-- one of the marks is the text's first, or it has none
abbrev HasMarkOrNone : List ℕ → Type 0
HasMarkOrNone text =
    HasFirstMark hyphen text ⊎ (HasFirstMark plus_sign text ⊎ AllByRecursion IsPlain text)

mark_here : (mark : ℕ) (b : ℕ) (text : List ℕ) → b ≡ mark → HasFirstMark mark (b ∷ text)
mark_here mark b text is = record {
  before = [];
  after = text;
  whole = ap (λ x. x ∷ text) is;
  first = tt;
}

mark_later : (mark : ℕ) (b : ℕ) (text : List ℕ) → IsPlain b → HasFirstMark mark text
    → HasFirstMark mark (b ∷ text)
mark_later mark b text plain_byte h = record {
  before = b ∷ h.before;
  after = h.after;
  whole = ap (λ rest. b ∷ rest) h.whole;
  first = (plain_byte, h.first);
}

one_byte_more : (b : ℕ) (text : List ℕ) → IsPlain b → HasMarkOrNone text
    → HasMarkOrNone (b ∷ text)
one_byte_more b text plain_byte (inl h) = inl (mark_later hyphen b text plain_byte h)
one_byte_more b text plain_byte (inr (inl h)) = inr (inl (mark_later plus_sign b text plain_byte h))
one_byte_more b text plain_byte (inr (inr none)) = inr (inr (plain_byte, none))

mark_or_none : (text : List ℕ) → HasMarkOrNone text
mark_or_none [] = inr (inr tt)
mark_or_none (b ∷ text) = elim (same_decided b hyphen) [
  | inl is ↦ inl (mark_here hyphen b text is)
  | inr no_hyphen ↦ elim (same_decided b plus_sign) [
    | inl is ↦ inr (inl (mark_here plus_sign b text is))
    | inr no_plus ↦ one_byte_more b text (no_hyphen, no_plus) (mark_or_none text)
  ]
]

two_or_none : (text : List ℕ) → AllByRecursion IsPlain text → IsErr (version_parts text)
    → (read : Result Parts Error) → version_parts (text ++ third) ≡ read
    → HasMeaningOrFault (HasVersion text) (IsVersionFault text)
two_or_none text unmarked three (Ok p) read =
    let (numbers, h, parts) = read_two text p unmarked read in inl (p, (numbers, inr h, parts))
two_or_none text unmarked three (Err e) read =
    inr (not_version text, (refl, unmarked, no_version text three (rw read refl)))

three_or_less : (text : List ℕ) → AllByRecursion IsPlain text
    → (read : Result Parts Error) → version_parts text ≡ read
    → HasMeaningOrFault (HasVersion text) (IsVersionFault text)
three_or_less text unmarked (Ok p) read =
    let (numbers, h, parts) = read_three text p unmarked read in inl (p, (numbers, inl h, parts))
three_or_less text unmarked (Err e) read =
    two_or_none text unmarked (rw read refl) (version_parts (text ++ third)) refl

mark_or_fault : (text : List ℕ) → HasMarkOrNone text
    → HasMeaningOrFault (HasVersion text) (IsVersionFault text)
mark_or_fault text (inl h) = inr (pre_release, h)
mark_or_fault text (inr (inl h)) = inr (build_metadata, h)
mark_or_fault text (inr (inr unmarked)) = three_or_less text unmarked (version_parts text) refl

pub version_or_fault : (text : List ℕ) → HasMeaningOrFault (HasVersion text) (IsVersionFault text)
version_or_fault text = mark_or_fault text (mark_or_none text)

one_version : (text : List ℕ) (x y : Parts) → HasVersion text x → HasVersion text y → x ≡ y
one_version text x y a b = a.2 ∙ ap plain (version_once text a.0 b.0 a.1 b.1) ∙ sym b.2

pub one_version_or_fault : HasOneMeaningOrFault HasVersion IsVersionFault
one_version_or_fault = record {
  meaning_or_fault = version_or_fault;
  one_meaning = one_version;
  one_fault = one_rule;
  never_both = λ text x rule a wrong. version_not_fault text a.0 rule a.1 wrong;
}

-- ---- what version texts mean

-- the text breaks a rule, which is the fault
abbrev pub VersionFaults : List ℕ → Fault → Type 0
VersionFaults text fault =
    (rule : BrokenRule) × IsVersionFault text rule × (fault ≡ broken_by rule)

fault_or_fault : (text : List ℕ) → HasMeaningOrFault (HasVersion text) (IsVersionFault text)
    → HasMeaningOrFault (HasVersion text) (VersionFaults text)
fault_or_fault text (inl version) = inl version
fault_or_fault text (inr (rule, wrong)) = inr (broken_by rule, (rule, wrong, refl))

pub version_text_or_fault : (text : List ℕ)
    → HasMeaningOrFault (HasVersion text) (VersionFaults text)
version_text_or_fault text = fault_or_fault text (version_or_fault text)

-- the version of a text, or the rule that the text breaks
abbrev pub version_text : Reading (List ℕ) Parts
version_text = record {
  means = HasVersion;
  faults = VersionFaults;
  takes_memory = λ text. Always;
  law = record {
    meaning_or_fault = version_text_or_fault;
    one_meaning = one_version_or_fault.one_meaning;
    one_fault =
        λ text f g a b. a.2 ∙ ap broken_by (one_rule text a.0 b.0 a.1 b.1) ∙ sym b.2;
    never_both = λ text x f a b. version_not_fault text a.0 b.0 a.1 b.1;
  };
}

-- a value that is a text with a version (TOML 1.1, "String")
abbrev pub version_reading : Reading Data Parts
version_reading = kind as_str (inner version_text) (wrong_kind text_expected)

-- ---- the scan for a mark

pub mark_at : (mark : ℕ) (text bytes : List ℕ) (i : ℕ) → bytes ≡ text → i < length bytes
    → get_or bytes i 0 ≡ mark → AllByRecursion IsPlain (take i text) → HasFirstMark mark text
mark_at mark text bytes i same within here before =
    let rest : drop i text ≡ mark ∷ drop (i + 1) bytes =
    rw (← same, ← here) (drop_more bytes i 0 within) in
    record {
      before = take i text;
      after = drop (i + 1) bytes;
      whole = sym (take-append-drop i text)
          ∙ ap (λ (r : List ℕ). take i text ++ r) rest;
      first = before;
    }

-- Each text has one fail limit, or one fault.
use Rattle.std.proofs.Common.{◌≡◌, ◌∙◌, ◌⊎◌, ℕ, ◌<◌, ◌≤◌, ◌^◌, ℤ, pos, neg_ℤ, negsuc, List, [], ◌∷◌, codes, lit<, zero, suc, refl, sym, ap, subst, inl, inr, arith, rules, Option, Some, None}
use Rattle.std.specs.Prelude.{◌≤ℤ◌, ◌<ℤ◌, FitsSigned, IfErr, IfOk}
use Rattle.std.specs.Str.{str_to_ascii_lowercase}
use Rattle.std.proofs.lemmas.Bool.{cases_lt}
use Rattle.std.specs.Int.{w64}
use Rattle.std.specs.declared.result.Result.{Result}
use Rattle.std.proofs.lemmas.Result.{IfErr-weaker, IfOk-weaker}
use Rattle.nextest_config_values.specs.Decisions.{IsFoundOrNone, same_text_decided}
use Rattle.nextest_config_values.specs.Identifier.{cut_or_none, HasNoColon, IsCutAtColon, same_cut, uncut}
use Rattle.nextest_config_values.specs.Once.{HasMeaningOrFault, HasOneMeaningOrFault}
use Rattle.nextest_config_values.specs.Read.Word.{value_or_none}
use Rattle.nextest_config_values.proofs.Faults.{fault_mapped}
use Rattle.nextest_config_elements.specs.MaxFail.{bad_count, bad_mode, HasCount, IsAllText, IsBadCount, IsBadMode, IsCountFault, IsCountLimit, IsCountText, IsLimitFault, IsLimitText, IsNoMode, IsNotPositive, IsParted, limit_fault, LimitFault, MeansMode, IsNumberText, mode_word, not_positive, number_or_none, number_parts, one_number, RefusesLimit}
use Rattle.nextest_config_elements.specs.MaxFail.FailFast.{mode_reads_back}
use Rattle.nextest_config_elements.specs.declared.max_fail.CountFault.{CountFault}
use Rattle.nextest_config_elements.specs.declared.max_fail.CountFault.TheVariants.{Empty, InvalidDigit, TooLarge, TooSmall}
use Rattle.nextest_config_elements.specs.declared.max_fail.MaxFail.{MaxFail}
use Rattle.nextest_config_elements.specs.declared.max_fail.MaxFail.TheVariants.{Count, All}
use Rattle.nextest_config_elements.specs.declared.max_fail.MaxFailParseError.{MaxFailParseError}
use Rattle.nextest_config_elements.specs.declared.max_fail.TerminateMode.{TerminateMode}
use Rattle.nextest_config_elements.specs.declared.max_fail.TerminateMode.TheVariants.{Wait, Immediate}

-- ---- parts

one_mode : (m n : TerminateMode) (word : List ℕ) → mode_word m ≡ word → mode_word n ≡ word → m ≡ n
one_mode m n word a b = search rules

same_parts : (text x y : List ℕ) (v w : Option (List ℕ)) (m n : TerminateMode) → IsParted text x v → IsParted text y w → MeansMode v m → MeansMode w n → (x ≡ y) × (m ≡ n)
same_parts text x y None None m n p q a b = (p.1 ∙ sym q.1, a ∙ sym b)
same_parts text x y None (Some w) m n p q a b = absurd (uncut text y w p.0 q)
same_parts text x y (Some v) None m n p q a b = absurd (uncut text x v q.0 p)
same_parts text x y (Some v) (Some w) m n p q a b =
    let same = same_cut text x v y w p q in
    (same.0, one_mode m n v a (b ∙ sym same.1))

pub same_count : (text x y : List ℕ) (m n : TerminateMode) → HasCount text x m → HasCount text y n → (x ≡ y) × (m ≡ n)
same_count text x y m n h k = same_parts text x y h.word k.word m n h.parted k.parted h.meant k.meant

mode_meant : (text x y w : List ℕ) (v : Option (List ℕ)) (m : TerminateMode) → IsParted text x v → MeansMode v m → IsCutAtColon text y w → IsNoMode w → ⊥
mode_meant text x y w None m p a cut none = uncut text y w p.0 cut
mode_meant text x y w (Some v) m p a cut none = none m (a ∙ (same_cut text x v y w p cut).1)

-- the mode is judged once
no_bad_mode : (text count : List ℕ) (mode : TerminateMode) (fault : LimitFault) → HasCount text count mode → IsBadMode text fault → ⊥
no_bad_mode text count mode fault h b = mode_meant text count b.1 b.2 h.word mode h.parted h.meant b.3 b.4

-- ---- counts

no_digits : (text : List ℕ) (number : ℤ) → text ≡ [] → IsNumberText text number → ⊥
no_digits text number none h = absurd (omega (arith, (number_parts [] number (subst (λ t. IsNumberText t number) none h)).0.0))

-- a number of an isize has none of these faults
fault_not_in : (count : List ℕ) (number : ℤ) (reason : CountFault) → IsNumberText count number → FitsSigned w64 number → IsCountFault count reason → ⊥
fault_not_in count number InvalidDigit h fits b = b.1 number h
fault_not_in count number reason h fits b = search (rules, no_digits)

count_fits : (number : ℕ) → number < 2 ^ 63 → FitsSigned w64 (pos number)
count_fits number fits = search rules

pub count_not_faulty : (count : List ℕ) (max_fail : ℕ) (reason : CountFault) → IsCountText count max_fail → IsCountFault count reason → ⊥
count_not_faulty count max_fail reason h = fault_not_in count (pos max_fail) reason h.number (count_fits max_fail h.fits)

not_bad_count : (count : List ℕ) (max_fail : ℕ) (fault : LimitFault) → IsCountText count max_fail → IsBadCount count fault → ⊥
not_bad_count count max_fail (bad_count written reason) h b = count_not_faulty count max_fail reason h b.1
not_bad_count count max_fail fault h b = search rules

-- ---- a text's limit

one_limit : (text : List ℕ) (a b : MaxFail) → IsLimitText text a → IsLimitText text b → a ≡ b
one_limit text All All h k = refl
one_limit text All (Count n mode) h k = absurd (k.1.not_all h)
one_limit text (Count m mode) All h k = absurd (h.1.not_all k)
one_limit text (Count m mode) (Count n other) h k =
    let same = same_count text h.0 k.0 mode other h.1 k.1 in
    let number = one_number k.0 (pos m) (pos n) (subst (λ count. IsCountText count m) same.0 h.2).number k.2.number in
    cc (same.1, number)

pub no_limit_at_bad_mode : (text : List ℕ) (fault : LimitFault) (limit : MaxFail) → IsBadMode text fault → IsLimitText text limit → ⊥
no_limit_at_bad_mode text fault All b h = b.0 h
no_limit_at_bad_mode text fault (Count n mode) b h = no_bad_mode text h.0 mode fault h.1 b

pub no_limit_without_count : (text count : List ℕ) (mode : TerminateMode) (limit : MaxFail) → HasCount text count mode → ((max_fail : ℕ) → ¬ (IsCountText count max_fail)) → IsLimitText text limit → ⊥
no_limit_without_count text count mode All has none h = has.not_all h
no_limit_without_count text count mode (Count n other) has none h =
    none n (subst (λ c. IsCountText c n) (same_count text h.0 count other mode h.1 has).0 h.2)

limit_not_faulty : (text : List ℕ) (limit : MaxFail) (fault : LimitFault) → IsLimitText text limit → IsLimitFault text fault → ⊥
limit_not_faulty text limit fault h (inl b) = no_limit_at_bad_mode text fault limit b h
limit_not_faulty text limit fault h (inr b) = no_limit_without_count text b.0 b.1 limit b.2 (λ max_fail count. not_bad_count b.0 max_fail fault count b.3) h

-- ---- a text's fault

one_reason : (count : List ℕ) (r s : CountFault) → IsCountFault count r → IsCountFault count s → r ≡ s
one_reason count InvalidDigit TooLarge a b = absurd (a.1 b.0 b.1)
one_reason count InvalidDigit TooSmall a b = absurd (a.1 b.0 b.1)
one_reason count TooLarge InvalidDigit a b = absurd (b.1 a.0 a.1)
one_reason count TooSmall InvalidDigit a b = absurd (b.1 a.0 a.1)
one_reason count r s a b = search rules

reason_not_in : (count : List ℕ) (r : CountFault) → IsCountFault count r → IsNotPositive count → ⊥
reason_not_in count r a b = fault_not_in count b.0 r b.1 b.2 a

one_bad_count : (count : List ℕ) (e f : LimitFault) → IsBadCount count e → IsBadCount count f → e ≡ f
one_bad_count count (bad_count text r) (bad_count other s) a b = ap (λ written. bad_count written r) (a.0 ∙ sym b.0) ∙ ap (bad_count other) (one_reason count r s a.1 b.1)
one_bad_count count e f a b = search (rules, reason_not_in)

one_bad_mode : (text : List ℕ) (e f : LimitFault) → IsBadMode text e → IsBadMode text f → e ≡ f
one_bad_mode text e f a b = a.5 ∙ ap bad_mode (same_cut text a.1 a.2 b.1 b.2 a.3 b.3).1 ∙ sym b.5

one_limit_fault : (text : List ℕ) (e f : LimitFault) → IsLimitFault text e → IsLimitFault text f → e ≡ f
one_limit_fault text e f (inl a) (inl b) = one_bad_mode text e f a b
one_limit_fault text e f (inl a) (inr b) = absurd (no_bad_mode text b.0 b.1 e b.2 a)
one_limit_fault text e f (inr a) (inl b) = absurd (no_bad_mode text a.0 a.1 f a.2 b)
one_limit_fault text e f (inr a) (inr b) =
    let same = same_count text a.0 b.0 a.1 b.1 a.2 b.2 in
    one_bad_count b.0 e f (subst (λ count. IsBadCount count e) same.0 a.3) b.3

-- ---- the count of a text

pub cut_count : (text count word : List ℕ) (mode : TerminateMode) → ¬ (IsAllText text) → IsCutAtColon text count word → mode_word mode ≡ word → HasCount text count mode
cut_count text count word mode not_all cut meant = record { not_all = not_all; word = Some word; parted = cut; meant = meant }

pub whole_count : (text : List ℕ) → ¬ (IsAllText text) → HasNoColon text → HasCount text text Wait
whole_count text not_all none = record { not_all = not_all; word = None; parted = (none, refl); meant = refl }

-- ---- each text has a limit, or a fault

-- the count is a number from 1 to the greatest isize, or has a fault
abbrev IsCountOrFault : List ℕ → Type 0
IsCountOrFault count = ((max_fail : ℕ) × IsCountText count max_fail) ⊎ ((fault : LimitFault) × IsBadCount count fault)

at_least : (number : ℕ) → 2 ^ 63 ≤ number → pos (2 ^ 63) ≤ℤ pos number
at_least number large = search rules

under : (number : ℕ) → 2 ^ 63 ≤ number → negsuc number <ℤ neg_ℤ (pos (2 ^ 63))
under number small = search rules

positive_or_fault : (count : List ℕ) (max_fail : ℕ) → IsNumberText count (pos max_fail) → 0 < max_fail → (max_fail < 2 ^ 63) ⊎ (2 ^ 63 ≤ max_fail) → IsCountOrFault count
positive_or_fault count max_fail is positive (inl fits) = inl (max_fail, record { number = is; positive = positive; fits = fits })
positive_or_fault count max_fail is positive (inr large) = inr (bad_count count TooLarge, (refl, (pos max_fail, is, at_least max_fail large)))

negative_or_fault : (count : List ℕ) (below : ℕ) → IsNumberText count (negsuc below) → (below < 2 ^ 63) ⊎ (2 ^ 63 ≤ below) → IsCountOrFault count
negative_or_fault count below is (inl fits) = inr (not_positive, (negsuc below, is, record { sfits = fits }, search rules))
negative_or_fault count below is (inr small) = inr (bad_count count TooSmall, (refl, (negsuc below, is, under below small)))

number_or_fault : (count : List ℕ) (number : ℤ) → IsNumberText count number → IsCountOrFault count
number_or_fault count (pos zero) is = inr (not_positive, (pos 0, is, record { sfits = lit< tt }, search rules))
number_or_fault count (pos (suc n)) is = positive_or_fault count (suc n) is (omega arith) (cases_lt (suc n) (2 ^ 63))
number_or_fault count (negsuc below) is = negative_or_fault count below is (cases_lt below (2 ^ 63))

no_number_or_fault : (count : List ℕ) → ((number : ℤ) → ¬ (IsNumberText count number)) → IsCountOrFault count
no_number_or_fault [] none = inr (bad_count [] Empty, (refl, refl))
no_number_or_fault (c ∷ cs) none = inr (bad_count (c ∷ cs) InvalidDigit, (refl, ((λ empty. cc empty), none)))

count_or_fault : (count : List ℕ) → IsCountOrFault count
count_or_fault count = elim (number_or_none count) [ inl (number, is) ↦ number_or_fault count number is | inr none ↦ no_number_or_fault count none ]

-- the text has a limit, or a fault
abbrev IsLimitOrFault : List ℕ → Type 0
IsLimitOrFault text = HasMeaningOrFault (IsLimitText text) (IsLimitFault text)

counted : (text count : List ℕ) (mode : TerminateMode) → HasCount text count mode → IsCountOrFault count → IsLimitOrFault text
counted text count mode has (inl (max_fail, is)) = inl (Count max_fail mode, (count, has, is))
counted text count mode has (inr (fault, wrong)) = inr (fault, inr (count, mode, has, wrong))

cut_or_fault : (text count word : List ℕ) → ¬ (IsAllText text) → IsCutAtColon text count word → IsFoundOrNone (λ mode. mode_word mode ≡ word) → IsLimitOrFault text
cut_or_fault text count word not_all cut (inl (mode, meant)) = counted text count mode (cut_count text count word mode not_all cut meant) (count_or_fault count)
cut_or_fault text count word not_all cut (inr none) = inr (bad_mode word, inl (not_all, count, word, cut, none, refl))

parts_or_fault : (text : List ℕ) → ¬ (IsAllText text) → ((count word : List ℕ) × IsCutAtColon text count word) ⊎ HasNoColon text → IsLimitOrFault text
parts_or_fault text not_all (inl (count, word, cut)) = cut_or_fault text count word not_all cut (value_or_none (Wait ∷ Immediate ∷ []) mode_word mode_reads_back word)
parts_or_fault text not_all (inr none) = counted text text Wait (whole_count text not_all none) (count_or_fault text)

limit_or_fault : (text : List ℕ) → IsLimitOrFault text
limit_or_fault text = elim (same_text_decided (str_to_ascii_lowercase text) (codes "all")) [ inl all ↦ inl (All, all) | inr not_all ↦ parts_or_fault text not_all (cut_or_none text) ]

pub one_limit_or_fault : HasOneMeaningOrFault IsLimitText IsLimitFault
one_limit_or_fault = record { meaning_or_fault = limit_or_fault; one_meaning = one_limit; one_fault = one_limit_fault; never_both = limit_not_faulty }

-- ---- answers, passed on

pub limit_passed : (text count : List ℕ) (mode : TerminateMode) (r : Result MaxFail MaxFailParseError) → HasCount text count mode → IfOk r (IsCountLimit count mode) → IfOk r (IsLimitText text)
limit_passed text count mode r has = IfOk-weaker r _ _ (λ limit h. rw h.2 (count, has, h.1))

pub fault_passed : (text count : List ℕ) (mode : TerminateMode) (r : Result MaxFail MaxFailParseError) → HasCount text count mode → IfErr r (RefusesLimit (IsBadCount count)) → IfErr r (RefusesLimit (IsLimitFault text))
fault_passed text count mode r has = IfErr-weaker r _ _ (λ error h. fault_mapped (limit_fault error) h (λ memory. memory) (λ fault bad. inr (count, mode, has, bad)))

pub none_passed : (text count : List ℕ) (mode : TerminateMode) (r : Result MaxFail MaxFailParseError) → HasCount text count mode
    → IfErr r (λ error. (max_fail : ℕ) → ¬ (IsCountText count max_fail)) → IfErr r (λ error. (limit : MaxFail) → ¬ (IsLimitText text limit))
none_passed text count mode r has = IfErr-weaker r _ _ (λ error h limit. no_limit_without_count text count mode limit has h)

-- The laws of identifiers and tool names.
use Rattle.std.proofs.Common.{◌≡◌, ◌≢◌, ℕ, true, false, List, [], ◌∷◌, ◌++◌, drop, refl, sym, ap, ◌∙◌, subst, inl, inr, lit<, rules}
use Rattle.std.specs.Prelude.{Bool, ◌⊎◌, codes}
use Rattle.std.specs.List.{AllByRecursion}
use Rattle.toml.specs.Data.{Data, as_str}
use Rattle.unicode_ident.proofs.IdentLemmas.{is_xid_continue-ascii, is_xid_start-ascii}
use Rattle.unicode_ident.specs.Ident.{is_xid_start}
use Rattle.nextest_config_values.specs.Helpers.Identifiers.{GoesOn, IsPlainFlaw, IsPlainIdentifier}
use Rattle.nextest_config_values.specs.Identifier.ConfigIdentifier.{AreFlawed, HasNoColon, IsCutAtColon, IsIdentifier, IsIdentifierFault, IsIdentifierFlaw, IsIdentifierForm, IsMarkedPair, IsUnmarked, tool_mark}
use Rattle.nextest_config_values.specs.Identifier.Error.{Component, IdentifierFlaw, NameFault, OneComponent, ToolNameFlaw, Whole, flawed}
use Rattle.nextest_config_values.specs.Identifier.Normal.{Grammar, IsNormalFault, IsNormalText, normal_chars, normal_form}
use Rattle.nextest_config_values.specs.Identifier.ToolName.{IsToolName, IsToolNameFault, IsToolNameFlaw}
use Rattle.nextest_config_values.specs.Decisions.{both_decided, IsDecided, IsFoundOrNone, same_decided, true_decided}
use Rattle.nextest_config_values.specs.Once.{HasMeaningOrFault, HasOneMeaningOrFault}
use Rattle.nextest_config_values.specs.Read.Fault.{Always, for_reason, fault_here, identifier, Reason, tool_name}
use Rattle.nextest_config_values.specs.Read.FromToml.{Reading}
use Rattle.nextest_config_values.specs.Read.Plain.{text_expected}
use Rattle.nextest_config_values.specs.Read.Readings.{kind, wrong_kind}
use Rattle.nextest_config_values.specs.declared.helpers.identifiers.InvalidIdentifierKind.{InvalidIdentifierKind}
use Rattle.nextest_config_values.specs.declared.helpers.identifiers.InvalidIdentifierKind.TheVariants as kinds
use Rattle.nextest_config_values.specs.declared.identifier.error.ToolNameFlaw.TheVariants as of_names

-- ---- characters

true_not_false : (b : Bool) → b ≡ true → b ≡ false → ⊥
true_not_false b holds fails = cc (holds, fails)

no_colon_after : (cs : List ℕ) → AllByRecursion GoesOn cs → HasNoColon cs
no_colon_after [] h = tt
no_colon_after (c ∷ cs) h = (
  λ e. true_not_false _ (subst GoesOn e h.0) (is_xid_continue-ascii 58 (lit< tt)),
  no_colon_after cs h.1,
)

pub plain_no_colon : (cs : List ℕ) → IsPlainIdentifier cs → HasNoColon cs
plain_no_colon [] h = absurd h
plain_no_colon (c ∷ cs) h = (
  λ e. true_not_false (is_xid_start c) h.0 (ap is_xid_start e ∙ is_xid_start-ascii 58 (lit< tt)),
  no_colon_after cs h.1,
)

pub plain_no_at_sign : (cs rest : List ℕ) → IsPlainIdentifier cs → cs ≢ 64 ∷ rest
plain_no_at_sign cs rest h e =
    true_not_false (is_xid_start 64) (subst IsPlainIdentifier e h).0
    (is_xid_start-ascii 64 (lit< tt))

-- ---- cuts

pub one_cut : (xs ys a b : List ℕ) → HasNoColon xs → HasNoColon ys → xs ++ (58 ∷ a) ≡ ys ++ (58 ∷ b)
    → (xs ≡ ys) × (a ≡ b)
one_cut [] [] a b h k e = (refl, cc e)
one_cut [] (y ∷ ys) a b h k e = absurd (k.0 (cc e))
one_cut (x ∷ xs) [] a b h k e = absurd (h.0 (cc e))
one_cut (x ∷ xs) (y ∷ ys) a b h k e =
    let rest = one_cut xs ys a b h.1 k.1 (cc e) in
    (cc (e, rest.0), rest.1)

pub no_colon_uncut : (xs a : List ℕ) → HasNoColon (xs ++ (58 ∷ a)) → ⊥
no_colon_uncut [] a h = h.0 refl
no_colon_uncut (x ∷ xs) a h = no_colon_uncut xs a h.1

pub same_cut : (text x y u v : List ℕ) → IsCutAtColon text x y → IsCutAtColon text u v → (x ≡ u)
    × (y ≡ v)
same_cut text x y u v cut other = one_cut x u y v cut.first other.first (sym cut.cut ∙ other.cut)

pub uncut : (text x y : List ℕ) → HasNoColon text → IsCutAtColon text x y → ⊥
uncut text x y none cut = no_colon_uncut x y (subst HasNoColon cut.cut none)

pub after_mark : (a b cs : List ℕ) → cs ≡ tool_mark ++ a → cs ≡ tool_mark ++ b → a ≡ b
after_mark a b cs e f = ap (drop 6) (sym e ∙ f)

-- ---- flaws

one_plain_flaw : (cs : List ℕ) (k l : InvalidIdentifierKind) → IsPlainFlaw cs k → IsPlainFlaw cs l
    → k ≡ l
one_plain_flaw cs k l a b = search rules

plain_not_flawed : (cs : List ℕ) (k : InvalidIdentifierKind) → IsPlainIdentifier cs
    → IsPlainFlaw cs k → ⊥
plain_not_flawed cs k h a = search rules

one_flawed_component : (tool name : List ℕ) (k l : InvalidIdentifierKind) → AreFlawed tool name k
    → AreFlawed tool name l → k ≡ l
one_flawed_component tool name k l a b = search (rules, one_plain_flaw, plain_not_flawed)

same_components : (cs : List ℕ) (r : List ℕ) (x y : List ℕ) (s : List ℕ) (u v : List ℕ)
    → cs ≡ tool_mark ++ r → IsCutAtColon r x y → cs ≡ tool_mark ++ s → IsCutAtColon s u v → (x ≡ u)
    × (y ≡ v)
same_components cs r x y s u v e cut f other =
    one_cut x u y v cut.first other.first (sym cut.cut ∙ after_mark r s cs e f ∙ other.cut)

one_component_no_cut : (cs rest s x y : List ℕ) → cs ≡ tool_mark ++ rest → HasNoColon rest
    → cs ≡ tool_mark ++ s → IsCutAtColon s x y → ⊥
one_component_no_cut cs rest s x y e none f cut =
    no_colon_uncut x y (subst HasNoColon (after_mark rest s cs e f ∙ cut.cut) none)

pub one_identifier_flaw : (cs : List ℕ) (f g : IdentifierFlaw) → IsIdentifierFlaw cs f
    → IsIdentifierFlaw cs g → f ≡ g
one_identifier_flaw cs (Whole k) g a b = search (rules, one_plain_flaw)
one_identifier_flaw cs OneComponent (Whole l) a b = absurd (b.0 a.0 a.1)
one_identifier_flaw cs OneComponent OneComponent a b = refl
one_identifier_flaw cs OneComponent (Component l) a b =
    absurd (one_component_no_cut cs a.0 b.0 b.1 b.2 a.1 a.2 b.3 b.4)
one_identifier_flaw cs (Component k) (Whole l) a b = absurd (b.0 a.0 a.3)
one_identifier_flaw cs (Component k) OneComponent a b =
    absurd (one_component_no_cut cs b.0 a.0 a.1 a.2 b.1 b.2 a.3 a.4)
one_identifier_flaw cs (Component k) (Component l) a b =
    let same = same_components cs a.0 a.1 a.2 b.0 b.1 b.2 a.3 a.4 b.3 b.4 in
    ap Component (one_flawed_component b.1 b.2 k l (rw (← same.0, ← same.1) a.5) b.5)

pair_cut : (cs tool name : List ℕ) → IsMarkedPair cs tool name
    → IsCutAtColon (tool ++ (58 ∷ name)) tool name
pair_cut cs tool name h = record { cut = refl; first = plain_no_colon tool h.tool_is_plain }

pub identifier_not_flawed : (cs : List ℕ) (f : IdentifierFlaw) → IsIdentifierForm cs
    → IsIdentifierFlaw cs f → ⊥
identifier_not_flawed cs (Whole k) h a = search (rules, plain_not_flawed)
identifier_not_flawed cs OneComponent (inl h) a = plain_no_at_sign cs _ h a.1
identifier_not_flawed cs (Component k) (inl h) a = plain_no_at_sign cs _ h a.3
identifier_not_flawed cs OneComponent (inr h) a =
    one_component_no_cut cs a.0 _ h.0 h.1 a.1 a.2 h.2.marked (pair_cut cs h.0 h.1 h.2)
identifier_not_flawed cs (Component k) (inr h) a =
    let same = same_components cs a.0 a.1 a.2 _ h.0 h.1 a.3 a.4 h.2.marked (pair_cut cs h.0 h.1 h.2)
    in
    let flawed : AreFlawed h.0 h.1 k = rw (← same.0, ← same.1) a.5 in
    search (rules, plain_not_flawed)

pub one_tool_name_flaw : (cs : List ℕ) (f g : ToolNameFlaw) → IsToolNameFlaw cs f
    → IsToolNameFlaw cs g → f ≡ g
one_tool_name_flaw cs f g a b = search rules

pub tool_name_not_flawed : (cs : List ℕ) (f : ToolNameFlaw) → IsPlainIdentifier cs
    → IsToolNameFlaw cs f → ⊥
tool_name_not_flawed cs of_names.StartsWithToolPrefix h a = plain_no_at_sign cs _ h a.1
tool_name_not_flawed cs f h a = search rules

-- ---- each text is of the form, or flawed

goes_on_decided : (cs : List ℕ) → IsDecided (AllByRecursion GoesOn cs)
goes_on_decided [] = inl tt
goes_on_decided (c ∷ cs) = both_decided (true_decided _) (goes_on_decided cs)

pub plain_decided : (cs : List ℕ) → IsDecided (IsPlainIdentifier cs)
plain_decided [] = inr (λ h. h)
plain_decided (c ∷ cs) = both_decided (true_decided _) (goes_on_decided cs)

plain_or_flawed : (cs : List ℕ)
    → IsPlainIdentifier cs ⊎ ((kind : InvalidIdentifierKind) × IsPlainFlaw cs kind)
plain_or_flawed [] = inr (kinds.Empty, refl)
plain_or_flawed (c ∷ cs) = elim (plain_decided (c ∷ cs)) [
  | inl plain ↦ inl plain
  | inr not_plain ↦ inr (kinds.InvalidXid, ((λ none. cc none), not_plain))
]

-- each text has a colon or none
pub cut_or_none : (cs : List ℕ)
    → ((before after : List ℕ) × IsCutAtColon cs before after) ⊎ HasNoColon cs
cut_or_none [] = inr tt
cut_or_none (c ∷ cs) = elim (same_decided c 58) [
  | inl is ↦ inl ([], cs, record { cut = ap (λ x. x ∷ cs) is; first = tt })
  | inr not ↦ elim (cut_or_none cs) [
    | inl (before, after, found) ↦ inl (
      c ∷ before,
      after,
      record { cut = ap (λ rest. c ∷ rest) found.cut; first = (not, found.first) },
    )
    | inr none ↦ inr (not, none)
  ]
]

-- a text begins with the other, or doesn't
begins_or_not : (mark cs : List ℕ) → IsFoundOrNone (λ rest. cs ≡ mark ++ rest)
begins_or_not [] cs = inl (cs, refl)
begins_or_not (m ∷ mark) [] = inr (λ rest whole. cc whole)
begins_or_not (m ∷ mark) (c ∷ cs) = elim (same_decided c m) [
  | inl is ↦ elim (begins_or_not mark cs) [
    | inl (rest, whole) ↦ inl (rest, cc (is, whole))
    | inr none ↦ inr (λ rest whole. none rest (cc whole))
  ]
  | inr not ↦ inr (λ rest whole. not (cc whole))
]

components_or_flaw : (cs rest tool name : List ℕ) → cs ≡ tool_mark ++ rest
    → IsCutAtColon rest tool name
    → IsIdentifierForm cs ⊎ ((f : IdentifierFlaw) × IsIdentifierFlaw cs f)
components_or_flaw cs rest tool name marked cut = elim (plain_or_flawed tool) [
  | inl tool_plain ↦ elim (plain_or_flawed name) [
    | inl name_plain ↦ inl (inr (
      tool,
      name,
      record {
        marked = marked ∙ ap (λ t. tool_mark ++ t) cut.cut;
        tool_is_plain = tool_plain;
        name_is_plain = name_plain;
      },
    ))
    | inr (kind, wrong) ↦ inr (
      Component kind,
      (rest, tool, name, marked, cut, inr (tool_plain, wrong)),
    )
  ]
  | inr (kind, wrong) ↦ inr (Component kind, (rest, tool, name, marked, cut, inl wrong))
]

marked_or_flaw : (cs rest : List ℕ) → cs ≡ tool_mark ++ rest
    → IsIdentifierForm cs ⊎ ((f : IdentifierFlaw) × IsIdentifierFlaw cs f)
marked_or_flaw cs rest marked = elim (cut_or_none rest) [
  | inl (tool, name, cut) ↦ components_or_flaw cs rest tool name marked cut
  | inr none ↦ inr (OneComponent, (rest, marked, none))
]

unmarked_or_flaw : (cs : List ℕ) → IsUnmarked cs
    → IsIdentifierForm cs ⊎ ((f : IdentifierFlaw) × IsIdentifierFlaw cs f)
unmarked_or_flaw cs unmarked = elim (plain_or_flawed cs) [
  | inl plain ↦ inl (inl plain)
  | inr (kind, wrong) ↦ inr (Whole kind, (unmarked, wrong))
]

pub identifier_or_flaw : (cs : List ℕ)
    → IsIdentifierForm cs ⊎ ((f : IdentifierFlaw) × IsIdentifierFlaw cs f)
identifier_or_flaw cs = elim (begins_or_not tool_mark cs) [
  | inl (rest, marked) ↦ marked_or_flaw cs rest marked
  | inr unmarked ↦ unmarked_or_flaw cs unmarked
]

tool_name_flaw : (cs : List ℕ) → ¬ IsPlainIdentifier cs
    → IsFoundOrNone (λ rest. cs ≡ codes "@tool" ++ rest)
    → (f : ToolNameFlaw) × IsToolNameFlaw cs f
tool_name_flaw cs not_plain (inl marked) = (of_names.StartsWithToolPrefix, marked)
tool_name_flaw [] not_plain (inr unmarked) = (of_names.Empty, refl)
tool_name_flaw (c ∷ cs) not_plain (inr unmarked) =
    (of_names.InvalidXid, ((λ none. cc none), (λ marked. unmarked marked.0 marked.1), not_plain))

pub tool_name_or_flaw : (cs : List ℕ)
    → IsPlainIdentifier cs ⊎ ((f : ToolNameFlaw) × IsToolNameFlaw cs f)
tool_name_or_flaw cs = elim (plain_decided cs) [
  | inl plain ↦ inl plain
  | inr not_plain ↦ inr (tool_name_flaw cs not_plain (begins_or_not (codes "@tool") cs))
]

-- ---- texts that are kept in their normal form

pub named_fault : {X Flaw : Type 0} {means : X → Type 0} {is_fault : NameFault Flaw → Type 0}
    (reason : NameFault Flaw → Reason) → HasMeaningOrFault means is_fault
    → HasMeaningOrFault means (λ fault. (told : NameFault Flaw) × is_fault told
    × (fault ≡ fault_here (for_reason (reason told))))
named_fault reason (inl meant) = inl meant
named_fault reason (inr (told, wrong)) =
    inr (fault_here (for_reason (reason told)), (told, wrong, refl))

module _ {Flaw : Type 0} (grammar : Grammar Flaw) where
  normal_in : (text : List ℕ)
      → grammar.IsForm (normal_chars text) ⊎ ((f : Flaw) × grammar.IsFlaw (normal_chars text) f)
      → HasMeaningOrFault (IsNormalText grammar.IsForm text) (IsNormalFault grammar.IsFlaw text)
  normal_in text (inl form) = inl (normal_form text, (form, refl))
  normal_in text (inr (flaw, wrong)) = inr (flawed flaw (normal_form text), (wrong, refl))

  pub normal_or_fault : (text : List ℕ)
      → HasMeaningOrFault (IsNormalText grammar.IsForm text) (IsNormalFault grammar.IsFlaw text)
  normal_or_fault text = normal_in text (grammar.form_or_flaw (normal_chars text))

  pub one_normal_fault : (text : List ℕ) (r s : NameFault Flaw) → IsNormalFault grammar.IsFlaw text r
      → IsNormalFault grammar.IsFlaw text s → r ≡ s
  one_normal_fault text (flawed f x) (flawed g y) a b =
      rw (grammar.one_flaw (normal_chars text) f g a.0 b.0, a.1, b.1) refl

  pub no_normal_fault : (text kept : List ℕ) (r : NameFault Flaw)
      → IsNormalText grammar.IsForm text kept → IsNormalFault grammar.IsFlaw text r → ⊥
  no_normal_fault text kept (flawed f x) h a = grammar.not_flawed (normal_chars text) f h.0 a.0

  pub one_name_or_fault : HasOneMeaningOrFault (IsNormalText grammar.IsForm)
      (IsNormalFault grammar.IsFlaw)
  one_name_or_fault = record {
    meaning_or_fault = normal_or_fault;
    one_meaning = λ text m n a b. a.1 ∙ sym b.1;
    one_fault = one_normal_fault;
    never_both = no_normal_fault;
  }

  -- a text whose normal form is of the grammar
  abbrev pub name_in : List ℕ → Reading Data (List ℕ)
  name_in text = record {
    means = λ value. IsNormalText grammar.IsForm text;
    faults = λ value fault. (told : NameFault Flaw) × IsNormalFault grammar.IsFlaw text told
        × (fault ≡ fault_here (for_reason (grammar.reason told)));
    takes_memory = λ value. Always;
    law = record {
      meaning_or_fault = λ value. named_fault grammar.reason (normal_or_fault text);
      one_meaning = λ value x y a b. a.1 ∙ sym b.1;
      one_fault = λ value f g a b. a.2
          ∙ ap (λ r. fault_here (for_reason (grammar.reason r)))
          (one_normal_fault text a.0 b.0 a.1 b.1)
          ∙ sym b.2;
      never_both = λ value x f a b. no_normal_fault text x b.0 a b.1;
    };
  }

  -- the reading of a name: a text whose normal form is of the grammar, and no other kind of value
  abbrev pub name_reading : Reading Data (List ℕ)
  name_reading = kind as_str name_in (wrong_kind text_expected)

-- the form of identifiers
abbrev pub identifier_grammar : Grammar IdentifierFlaw
identifier_grammar = record {
  IsForm = IsIdentifierForm;
  IsFlaw = IsIdentifierFlaw;
  form_or_flaw = identifier_or_flaw;
  one_flaw = one_identifier_flaw;
  not_flawed = identifier_not_flawed;
  reason = identifier;
}

-- the form of tool names
abbrev pub tool_name_grammar : Grammar ToolNameFlaw
tool_name_grammar = record {
  IsForm = IsPlainIdentifier;
  IsFlaw = IsToolNameFlaw;
  form_or_flaw = tool_name_or_flaw;
  one_flaw = one_tool_name_flaw;
  not_flawed = tool_name_not_flawed;
  reason = tool_name;
}

pub one_identifier_or_fault : HasOneMeaningOrFault IsIdentifier IsIdentifierFault
one_identifier_or_fault = one_name_or_fault identifier_grammar

pub one_tool_name_or_fault : HasOneMeaningOrFault IsToolName IsToolNameFault
one_tool_name_or_fault = one_name_or_fault tool_name_grammar

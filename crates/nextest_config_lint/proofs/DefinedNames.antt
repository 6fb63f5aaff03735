-- Sets of names that are added one by one.
use Rattle.std.proofs.Common.{◌≡◌, ◌⊎◌, ◌↔◌, ℕ, Bool, true, false, List, [], ◌∷◌, ◌++◌, Contains, IsSome, IsTrue, Option, Some, None, is_some, not, ◌&&◌, ◌||◌, option_map, zero, suc, ◌<◌, arith, get_or, length, take, String, Global, inl, inr, map, refl, string_bytes, subst, sym, ap, ◌∙◌, ⊎_elim}
use mathlib.Core.Logic.{⊎_map}
use Rattle.std.proofs.Math.Seq.{take-length}
use Rattle.std.proofs.lemmas.Bool.{true≢false}
use Rattle.std.proofs.lemmas.Map.Text.{is_eq-slice_cmp}
use Rattle.std.proofs.lemmas.Slice.Eq.{bytes_eq-Decides}
use Rattle.std.specs.BTreeMap.{is_at}
use Rattle.std.specs.List.{list_any}
use Rattle.std.specs.Str.{bytes_eq}
use Rattle.toml.specs.Data.{Members}
use Rattle.toml.specs.View.{table_view}
use Rattle.std.specs.Cmp.Lexicographic.{slice_cmp}
use Rattle.std.specs.Ordering.{nat_cmp}
use Rattle.nextest_config.specs.NextestVersion.SetLaws.{contains_none}
use Rattle.nextest_config.proofs.Members.{member_iff, none_in_order}
use Rattle.nextest_config.specs.declared.nextest_version.source.ConfigSourceKind.{ConfigSourceKind}
use Rattle.nextest_config.specs.declared.nextest_version.source.ConfigSourceKind.TheVariants.{Tool}
use Rattle.nextest_config_values.proofs.Components.{plain_unmarked}
use Rattle.nextest_config_values.specs.Helpers.Identifiers.{IsPlainIdentifier}
use Rattle.nextest_config_values.specs.Identifier.{after_mark, AreComponents, IdentifierFlaw, IsIdentifier, IsIdentifierFault, NameFault, same_cut}
use Rattle.nextest_config_values.specs.Read.{FaultOrMemory}
use Rattle.std.specs.Prelude.{chars}
use Rattle.nextest_config_values.specs.Identifier.Laws.{one_identifier_or_fault}
use Rattle.nextest_config_lint.specs.Defined.{AddsNames, AreDocuments, AreNamesOf, DefinesNamed, file_of, HasTool, keys_of, ListFile, SomeOf}
use Rattle.nextest_config_lint.specs.References.Names.{IsUndefined}
use Rattle.nextest_config_lint.specs.Settings.{names_of}
use Rattle.nextest_config_lint.specs.declared.defined.ListedFile.{ListedFile}
use Rattle.nextest_config_elements.specs.declared.named.NamedKind.{NamedKind}

pub some_left : {A : Type 0} (P : A → Type 0) (xs ys : List A) → SomeOf P xs → SomeOf P (xs ++ ys)
some_left P [] ys none = absurd none
some_left P (x ∷ xs) ys (inl here) = inl here
some_left P (x ∷ xs) ys (inr later) = inr (some_left P xs ys later)

pub some_last : {A : Type 0} (P : A → Type 0) (xs : List A) (x : A) → P x → SomeOf P (xs ++ (x ∷ []))
some_last P [] x here = inl here
some_last P (y ∷ xs) x here = inr (some_last P xs x here)

pub some_pushed : {A : Type 0} (P : A → Type 0) (xs : List A) (x : A) → SomeOf P (xs ++ (x ∷ [])) → SomeOf P xs ⊎ P x
some_pushed P [] x (inl here) = inr here
some_pushed P [] x (inr none) = absurd none
some_pushed P (y ∷ xs) x (inl here) = inl (inl here)
some_pushed P (y ∷ xs) x (inr later) = ⊎_map (λ earlier. inr earlier) (λ here. here) (some_pushed P xs x later)

-- the same said by other words
pub adds_same : (P Q : List ℕ → Type 0) (before after : List (List ℕ)) → ((name : List ℕ) → P name ↔ Q name) → AddsNames P before after → AddsNames Q before after
adds_same P Q before after same adds = record {
  in_order = adds.in_order;
  each = λ name. (λ h. ⊎_map (λ there. there) (same name).0 ((adds.each name).0 h), λ h. (adds.each name).1 (⊎_map (λ there. there) (same name).1 h));
}

-- what is added at first, and then
pub adds_then : (P Q : List ℕ → Type 0) (before between after : List (List ℕ)) → AddsNames P before between → AddsNames Q between after → AddsNames (λ name. P name ⊎ Q name) before after
adds_then P Q before between after first then = record {
  in_order = λ h. then.in_order (first.in_order h);
  each = λ name. (
    λ h. ⊎_elim (λ there. ⊎_map (λ stood. stood) inl ((first.each name).0 there)) (λ holds. inr (inr holds)) ((then.each name).0 h),
    λ h. (then.each name).1 (⊎_elim (λ stood. inl ((first.each name).1 (inl stood))) (⊎_map (λ holds. (first.each name).1 (inr holds)) (λ holds. holds)) h),
  );
}

-- those of one element more
pub adds_next : {A : Type 0} (P : A → List ℕ → Type 0) (xs : List A) (x : A) (before between after : List (List ℕ))
    → AddsNames (λ name. SomeOf (λ y. P y name) xs) before between → AddsNames (P x) between after → AddsNames (λ name. SomeOf (λ y. P y name) (xs ++ (x ∷ []))) before after
adds_next P xs x before between after so_far one =
    adds_same (λ name. SomeOf (λ y. P y name) xs ⊎ P x name) (λ name. SomeOf (λ y. P y name) (xs ++ (x ∷ []))) before after
    (λ name. (⊎_elim (some_left (λ y. P y name) xs (x ∷ [])) (some_last (λ y. P y name) xs x), some_pushed (λ y. P y name) xs x))
    (adds_then (λ name. SomeOf (λ y. P y name) xs) (P x) before between after so_far one)

-- those that were added to none
pub names_added : (Holds : List ℕ → Type 0) (names : List (List ℕ)) → AddsNames Holds [] names → AreNamesOf Holds names
names_added Holds names adds = record {
  in_order = adds.in_order (none_in_order (slice_cmp nat_cmp));
  each = λ name. (λ h. ⊎_elim (λ there. absurd (contains_none there)) (λ holds. holds) ((adds.each name).0 h), λ holds. (adds.each name).1 (inr holds));
}

-- and the other way round
pub added_names : (Holds : List ℕ → Type 0) (names : List (List ℕ)) → AreNamesOf Holds names → AddsNames Holds [] names
added_names Holds names are = record {
  in_order = λ _. are.in_order;
  each = λ name. (λ there. inr ((are.each name).0 there), ⊎_elim (λ there. absurd (contains_none there)) (are.each name).1);
}

-- ---- those of all files

pub names_all : (P : ListFile → List ℕ → Type 0) (files : List ListedFile) (n : ℕ) (names : List (List ℕ)) → n ≡ length files
    → AddsNames (λ name. SomeOf (λ file. P file name) (map file_of (take n files))) [] names → AddsNames (λ name. SomeOf (λ file. P file name) (map file_of files)) [] names
names_all P files n names last adds =
    subst (λ (l : List ListedFile). AddsNames (λ name. SomeOf (λ file. P file name) (map file_of l)) [] names) (ap (λ (i : ℕ). take i files) last ∙ take-length files) adds

-- those of the table of a file
pub adds_of_table : (R : List ℕ → List ℕ → Type 0) (found : Option Members) (profiles : Members) (before after : List (List ℕ)) → found ≡ Some profiles
    → AddsNames (λ name. SomeOf (λ key. R key name) (names_of profiles)) before after → AddsNames (λ name. SomeOf (λ key. R key name) (keys_of found)) before after
adds_of_table R found profiles before after is adds = rw is adds

-- that of a tool's file
pub adds_tool : (kind : ConfigSourceKind) (tool text : List ℕ) (before after : List (List ℕ)) → kind ≡ Tool tool → text ≡ tool
    → AddsNames (λ other. text ≡ other) before after → AddsNames (λ other. kind ≡ Tool other) before after
adds_tool kind tool text before after is same adds =
    adds_same (λ other. text ≡ other) (λ other. kind ≡ Tool other) before after (λ other. (λ e. is ∙ ap Tool (sym same ∙ e), λ e. let both : Tool tool ≡ Tool other = sym is ∙ e in let one : tool ≡ other = cc both in same ∙ one)) adds

-- a key that is an identifier adds what it is kept as
pub adds_kept : (key name text : List ℕ) (before after : List (List ℕ)) → IsIdentifier key name → text ≡ name → AddsNames (λ other. text ≡ other) before after → AddsNames (IsIdentifier key) before after
adds_kept key name text before after is same adds =
    adds_same (λ other. text ≡ other) (IsIdentifier key) before after (λ other. (λ e. subst (IsIdentifier key) (sym same ∙ e) is, λ also. same ∙ one_identifier_or_fault.one_meaning key name other is also)) adds

-- ---- files that are no documents

none_read : {X Y : Type 0} (g : X → Y) (o : Option X) → not (is_some o) ≡ true → IsSome (option_map g o) → ⊥
none_read g None none some = true≢false (sym some)
none_read g (Some x) none some = true≢false (sym none)

pub unread : (files : List ListedFile) (i : ℕ) (file : ListedFile) → i < length files → file ≡ get_or files i file → not (is_some file.document) ≡ true → AreDocuments (map file_of files) → ⊥
unread [] i file within is none all = absurd (omega (arith, within))
unread (first ∷ files) zero file within is none all = none_read (λ document. table_view document.now) first.document (subst (λ (f : ListedFile). not (is_some f.document) ≡ true) is none) all.0
unread (first ∷ files) (suc i) file within is none all = unread files i file (omega (arith, within)) is none all.1

-- ---- a set that is asked for a name

any_text : (keys : List (String Global)) (name : List ℕ) → list_any (is_at (λ k. slice_cmp nat_cmp name (string_bytes k))) keys ≡ list_any (bytes_eq name) (map string_bytes keys)
any_text [] name = refl
any_text (key ∷ keys) name = rw (is_eq-slice_cmp name (string_bytes key), any_text keys name) refl

pub has_iff : (keys : List (String Global)) (name : List ℕ) (answer : Bool) → answer ≡ list_any (is_at (λ k. slice_cmp nat_cmp name (string_bytes k))) keys → IsTrue answer ↔ Contains (map string_bytes keys) name
has_iff keys name answer is =
    let found = member_iff bytes_eq (λ x. (bytes_eq-Decides x x).1 refl) (λ x y. (bytes_eq-Decides x y).0) name (map string_bytes keys) in
    (λ yes. found.0 (sym (any_text keys name) ∙ sym is ∙ yes), λ there. is ∙ any_text keys name ∙ found.1 there)

-- ---- what isn't defined

pub not_kept : (key : List ℕ) (reported : Option (NameFault IdentifierFlaw)) (of_memory : Type 0) → IsSome reported → FaultOrMemory reported of_memory (IsIdentifierFault key) → (name : List ℕ) → IsIdentifier key name → ⊥
not_kept key None of_memory some refused name is = true≢false (sym some)
not_kept key (Some fault) of_memory some refused name is = one_identifier_or_fault.never_both key name fault is refused

-- one answer and not another
pub one_not_other : (a b : Bool) (A B : Type 0) → IsTrue a ↔ A → IsTrue b ↔ B → IsTrue (a && not b) ↔ (A × (B → ⊥))
one_not_other false b A B h k = (λ yes. absurd (true≢false (sym yes)), λ (holds, _). h.1 holds)
one_not_other true false A B h k = (λ _. (h.0 refl, λ other. true≢false (sym (k.1 other))), λ _. refl)
one_not_other true true A B h k = (λ yes. absurd (true≢false (sym yes)), λ (_, none). absurd (none (k.0 refl)))

pub neither : (a b : Bool) (A B : Type 0) → (not a || b) ≡ false → IsTrue a ↔ A → IsTrue b ↔ B → A × (B → ⊥)
neither false b A B e h k = absurd (true≢false e)
neither true true A B e h k = absurd (true≢false e)
neither true false A B e h k = (h.0 refl, λ other. true≢false (sym (k.1 other)))

-- of the components of a name the tool is one
one_tool : (name tool rest other last : List ℕ) → AreComponents name tool rest → AreComponents name other last → tool ≡ other
one_tool name tool rest other last h k =
    (same_cut (tool ++ (58 ∷ rest)) tool rest other last (record { cut = refl; first = h.tool_uncut })
    (record { cut = after_mark (tool ++ (58 ∷ rest)) (other ++ (58 ∷ last)) name h.whole k.whole; first = k.tool_uncut })).0

-- a name of a tool that isn't defined, as far as the list has a file of the tool
pub undefined_of_tool : (kind : NamedKind) (files : List ListFile) (name tool rest : List ℕ) (answer : Bool) → AreComponents name tool rest → IsTrue answer ↔ HasTool files tool → AreDocuments files × (DefinesNamed kind files name → ⊥)
    → IsTrue answer ↔ IsUndefined kind files name
undefined_of_tool kind files name tool rest true parts has (all_read, undefined) = (
  λ yes. record {
    all_read = all_read;
    undefined = undefined;
    of_list = λ (other, last, also, absent). absent (subst (HasTool files) (one_tool name tool rest other last parts also) (has.0 yes));
  },
  λ _. refl,
)
undefined_of_tool kind files name tool rest false parts has (all_read, undefined) =
    (λ yes. absurd (true≢false (sym yes)), λ is. absurd (is.of_list (tool, rest, parts, λ there. true≢false (sym (has.1 there)))))

-- a name of no tool that isn't defined
pub undefined_of_none : (kind : NamedKind) (files : List ListFile) (name : List ℕ) → IsPlainIdentifier (chars name) → AreDocuments files × (DefinesNamed kind files name → ⊥) → IsTrue true ↔ IsUndefined kind files name
undefined_of_none kind files name plain (all_read, undefined) = (
  λ yes. record { all_read = all_read; undefined = undefined; of_list = λ (other, last, also, absent). plain_unmarked name plain (other, last, also) },
  λ _. refl,
)

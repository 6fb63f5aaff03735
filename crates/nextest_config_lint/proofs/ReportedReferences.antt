-- What is told of names that refer to others.
use mathlib.Core.Logic.Iff as iff
use Rattle.std.proofs.Common.{◌≡◌, ◌≢◌, ◌↔◌, ℕ, arith, Bool, false, Global, inl, inr, IsTrue, length, List, [], ◌∷◌, not, Option, option_map, refl, Some, String, subst, sym, true, ◌∙◌}
use Rattle.std.proofs.lemmas.Bool.{true≢false}
use Rattle.std.proofs.lemmas.Option.{same_Some}
use Rattle.std.specs.BTreeMap.{BTreeMap}
use Rattle.toml.specs.Data.{as_table, Data, Members, no_members}
use Rattle.toml.specs.View.{members_view, table_view}
use Rattle.toml.specs.declared.value.Value.{Value}
use Rattle.nextest_config_values.specs.Identifier.{identifier_fault, IdentifierFlaw, NameFault}
use Rattle.nextest_config_values.specs.Read.Fault.{identifier}
use Rattle.nextest_config_values.specs.declared.identifier.error.InvalidIdentifier.{InvalidIdentifier}
use Rattle.nextest_config_values.specs.declared.identifier.error.InvalidIdentifier.TheVariants as errors
use Rattle.nextest_config_lint.specs.Defined.{DefinesNamed, ListFile}
use Rattle.nextest_config_lint.specs.Found.{FoundKind, no_name, other_script}
use Rattle.nextest_config_elements.specs.Named.{other_kind}
use Rattle.nextest_config_lint.specs.References.Names.{IsMissingReported, IsNearestReported}
use Rattle.nextest_config_elements.specs.declared.named.NamedKind.{NamedKind}
use Rattle.nextest_config_elements.specs.declared.named.NamedKind.TheVariants.{Script}
use Rattle.nextest_config_elements.specs.declared.named.ScriptKind.{ScriptKind}

-- a refusal of anything but memory is told
pub fault_reported : (kind : NamedKind) (error : InvalidIdentifier) → (error ≡ errors.Memory → ⊥)
    → (fault : NameFault IdentifierFlaw) × (identifier_fault error ≡ Some fault) × (option_map (λ f. no_name kind (identifier f)) (identifier_fault error) ≡ Some (no_name kind (identifier fault)))
fault_reported kind errors.Empty other = (_, refl, refl)
fault_reported kind (errors.InvalidXid text) other = (_, refl, refl)
fault_reported kind (errors.ToolIdentifierInvalidFormat text) other = (_, refl, refl)
fault_reported kind (errors.ToolComponentEmpty text) other = (_, refl, refl)
fault_reported kind (errors.ToolIdentifierInvalidXid text) other = (_, refl, refl)
fault_reported kind errors.Memory other = absurd (other refl)

-- ---- tables

not_of : (answer : Bool) (P : Type 0) → IsTrue answer ↔ P → IsTrue (not answer) ↔ (P → ⊥)
not_of true P is = (λ yes. absurd (true≢false (sym yes)), λ never. absurd (never (is.0 refl)))
not_of false P is = (λ _ holds. true≢false (sym (is.1 holds)), λ _. refl)

no_entries : (entries : List (String Global × Value)) → (length entries ≡ 0) ↔ (members_view entries ≡ no_members)
no_entries [] = (λ _. refl, λ _. refl)
no_entries (entry ∷ entries) = (λ none. absurd (omega (arith, none)), λ none. absurd (cc none))

-- a table has a key where it isn't empty
pub has_a_key : (value : Data) (held : BTreeMap (String Global) Value) (empty : Bool) → as_table value ≡ Some (table_view held) → IsTrue empty ↔ (length held.entries ≡ 0)
    → IsTrue (not empty) ↔ ((members : Members) × (as_table value ≡ Some members) × (members ≢ no_members))
has_a_key value held empty is none =
    let some = not_of empty (table_view held ≡ no_members) (iff.trans none (no_entries held.entries)) in (
      λ yes. (table_view held, is, some.0 yes),
      λ (members, also, not_none). some.1 (λ same. not_none (same_Some members (table_view held) (sym also ∙ is) ∙ same)),
    )

-- ---- scripts

-- a name of the other kind of script is told as that
pub other_reported : (files : List ListFile) (kind : NamedKind) (script other : ScriptKind) (name : List ℕ) → kind ≡ Script script → other ≡ other_kind script → DefinesNamed (Script other) files name
    → IsMissingReported kind files name (Some (other_script other name))
other_reported files kind script other name is same there =
    rw (is, same) (inl (other_script (other_kind script) name, inl (subst (λ (k : ScriptKind). DefinesNamed (Script k) files name) same there, refl), refl))

-- one of neither kind with the nearest
pub nearest_reported : (files : List ListFile) (kind : NamedKind) (script other : ScriptKind) (name : List ℕ) (reported : Option FoundKind) → kind ≡ Script script → other ≡ other_kind script
    → (DefinesNamed (Script other) files name → ⊥) → IsNearestReported (Script script) files name reported → IsMissingReported kind files name reported
nearest_reported files kind script other name reported is same none nearest =
    rw is (inr (inr ((λ there. none (subst (λ (k : ScriptKind). DefinesNamed (Script k) files name) (sym same) there)), refl), nearest))

-- what holds of a kind of script that is known
pub of_script : (kind : NamedKind) (script known : ScriptKind) → kind ≡ Script script → script ≡ known → (P : NamedKind → Type 0) → P (Script known) → P kind
of_script kind script known is same P holds = rw (is, same) holds

-- What `==` of refusals says.
use Rattle.std.proofs.Common.{◌≡◌, ◌↔◌, ◌&&◌, ℕ, nat_eq, Bool, Bor, IsTrue, List, [], ◌∷◌, Option, Some, None, map, String, Global, option_map, string_bytes, refl, sym, ap, ap₂, ◌∙◌, rules}
use Rattle.std.proofs.lemmas.Bool.{and_from, and_parts}
use Rattle.std.specs.Cmp.Lexicographic.{pointwise}
use Rattle.std.specs.String.{string_eq}
use Rattle.semver.specs.Identifiers.{parts_of}
use Rattle.semver.specs.contracts.VersionPartialEq.TheImpl as version_eq
use Rattle.semver.specs.declared.Version.{Version}
use Rattle.nextest_config_values.specs.Equality.{IsEqualityBy, IsEqualityOfTold}
use Rattle.nextest_config_values.specs.Read.{for_reason, broken_rule, BrokenRule, Cause, cause_of, custom, fault_of, fault_with, identifier, missing_key, no_duration, Reason, reason_of, required_above_recommended, step_of, read_fault_view, read_fault_with, ReadFaultView, tool_name, words_of}
use Rattle.nextest_config_values.specs.Read.Fault.{Fault, unknown_field, unknown_variant}
use Rattle.nextest_config_values.specs.Identifier.{identifier_fault, tool_name_fault}
use Rattle.nextest_config_values.specs.contracts.read.fault.FaultKindPartialEq.TheImpl as kind_eq
use Rattle.nextest_config_values.specs.contracts.read.fault.ReadFaultPartialEq.TheImpl as fault_eq
use Rattle.nextest_config_values.specs.contracts.read.fault.RulePartialEq.TheImpl as rule_eq
use Rattle.toml_spans.specs.contracts.step.StepPartialEq.TheImpl as step_eq
use Rattle.nextest_config_values.specs.contracts.read.value_fault.FaultCausePartialEq.TheImpl as cause_eq
use Rattle.nextest_config_values.specs.contracts.read.value_fault.ValueFaultPartialEq.TheImpl as value_eq
use Rattle.nextest_config_values.specs.declared.read.value_fault.FaultCause.TheVariants as causes
use Rattle.nextest_config_values.specs.declared.read.fault.FaultKind.TheVariants as kinds
use Rattle.nextest_config_values.specs.declared.read.fault.Rule.TheVariants as broken

one_version : IsEqualityBy parts_of (version_eq.ghosts).eq
one_version a b = search rules

two_versions : (a b c d : Version) → IsTrue ((version_eq.ghosts).eq a c && (version_eq.ghosts).eq b d) ↔ (required_above_recommended (parts_of a) (parts_of b) ≡ required_above_recommended (parts_of c) (parts_of d))
two_versions a b c d = (
  λ both. ap₂ required_above_recommended ((one_version a c).0 (and_parts _ _ both).0) ((one_version b d).0 (and_parts _ _ both).1),
  λ same. and_from _ _ ((one_version a c).1 (cc same)) ((one_version b d).1 (cc same)),
)

pub same_rule : IsEqualityBy broken_rule (rule_eq.ghosts).eq
same_rule (broken.RequiredAboveRecommended required recommended) (broken.RequiredAboveRecommended other more) = two_versions required recommended other more
same_rule a b = search rules

one_told : {F G : Type 0} (reason : F → G) → ((a b : F) → reason a ≡ reason b → a ≡ b) → (told other : Option F) → option_map reason told ≡ option_map reason other → told ≡ other
one_told reason one told other e = search rules

-- of a name's fault
told_alike : {F : Type 0} (make : F → Reason) → ((a b : F) → make a ≡ make b → a ≡ b) → (told other : Option F) (IsSame : Type 0)
    → IsSame ↔ (told ≡ other) → (reason : Reason) → option_map make told ≡ Some reason
    → IsSame ↔ (option_map make other ≡ Some reason)
told_alike make one told other IsSame alike reason is = search rules

same_text : IsEqualityBy {X = String Global} string_bytes string_eq
same_text a b = search rules

same_word : IsEqualityBy {X = Bor (List ℕ)} (λ word. word.now) (λ a b. pointwise nat_eq a.now b.now)
same_word a b = search rules

-- of each in turn
same_each : {X Y : Type 0} (seen : X → Y) (eq : X → X → Bool) → IsEqualityBy seen eq → (xs ys : List X) → IsTrue (pointwise eq xs ys) ↔ (map seen xs ≡ map seen ys)
same_each seen eq one [] [] = (λ same. refl, λ e. refl)
same_each seen eq one [] (y ∷ ys) = (λ same. cc same, λ e. cc e)
same_each seen eq one (x ∷ xs) [] = (λ same. cc same, λ e. cc e)
same_each seen eq one (x ∷ xs) (y ∷ ys) = (
  λ same.
      let (first, rest) = and_parts _ _ same in
      ap₂ (λ s more. s ∷ more) ((one x y).0 first) ((same_each seen eq one xs ys).0 rest),
  λ e. and_from _ _ ((one x y).1 (cc e)) ((same_each seen eq one xs ys).1 (cc e)),
)

-- of an unknown name and the known ones
names_alike : (make : List ℕ → List (List ℕ) → Reason) → ((a b : List ℕ) (xs ys : List (List ℕ)) → make a xs ≡ make b ys → (a ≡ b) × (xs ≡ ys))
    → (found other : String Global) (words more : List (Bor (List ℕ))) (reason : Reason) → Some (make (string_bytes found) (words_of words)) ≡ Some reason
    → IsTrue (string_eq found other && pointwise (λ a b. pointwise nat_eq a.now b.now) words more) ↔ (Some (make (string_bytes other) (words_of more)) ≡ Some reason)
names_alike make one found other words more reason is =
    let texts = same_text found other in
    let lists = same_each (λ (word : Bor (List ℕ)). word.now) (λ a b. pointwise nat_eq a.now b.now) same_word words more in (
      λ same.
          let (t, w) = and_parts _ _ same in
          ap₂ (λ (text : List ℕ) (all : List (List ℕ)). Some (make text all)) (sym (texts.0 t)) (sym (lists.0 w)) ∙ is,
      λ told.
          let (t, w) = one _ _ _ _ (cc (is, told)) in
          and_from _ _ (texts.1 t) (lists.1 w),
    )

pub same_kind : IsEqualityOfTold reason_of (kind_eq.ghosts).eq
same_kind (kinds.Custom rule) (kinds.Custom other) reason is = (
  λ same. ap (λ (r : BrokenRule). Some (custom r)) (sym ((same_rule rule other).0 same)) ∙ is,
  λ told. (same_rule rule other).1 (cc (is, told)),
)
same_kind (kinds.UnknownVariant found words) (kinds.UnknownVariant other more) reason is =
    names_alike unknown_variant (λ a b xs ys e. (cc e, cc e)) found other words.now more.now reason is
same_kind (kinds.UnknownField found words) (kinds.UnknownField other more) reason is =
    names_alike unknown_field (λ a b xs ys e. (cc e, cc e)) found other words.now more.now reason is
same_kind (kinds.Identifier error) (kinds.Identifier other) reason is =
    told_alike identifier (λ a b e. cc e) (identifier_fault error) (identifier_fault other) _ (search rules) reason is
same_kind (kinds.ToolName error) (kinds.ToolName other) reason is =
    told_alike tool_name (λ a b e. cc e) (tool_name_fault error) (tool_name_fault other) _ (search rules) reason is
same_kind kinds.Memory b reason is = cc is
same_kind a b reason is = search rules

-- of a fault at a place: of what it is told in, and where
module _ {A C F : Type 0} (make : A → C → F) (at : F → A) (what : F → C) (apart : (a : A) (c : C) (f : F) → make a c ≡ f → (c ≡ what f) × (a ≡ at f)) where
  parts_told : (a : A) (told : Option C) (fault : F) → option_map (make a) told ≡ Some fault → (told ≡ Some (what fault)) × (a ≡ at fault)
  parts_told a None fault is = cc is
  parts_told a (Some c) fault is = let (same, place) = apart a c fault (cc is) in (ap Some same, place)

  alike_at : (p k : Bool) (a b : A) (told other : Option C) (fault : F) → option_map (make a) told ≡ Some fault → IsTrue p ↔ (a ≡ b)
      → (told ≡ Some (what fault) → IsTrue k ↔ (other ≡ Some (what fault))) → IsTrue (p && k) ↔ (option_map (make b) other ≡ Some fault)
  alike_at p k a b told other fault is places kinds =
      let (cause, place) = parts_told a told fault is in
      let kind = kinds cause in (
        λ same.
            let (s, t) = and_parts p k same in
            rw (kind.0 t) (ap (λ (x : A). Some (make x (what fault))) (sym (places.0 s)) ∙ rw cause at is),
        λ other_told.
            let (r, q) = parts_told b other fault other_told in
            and_from p k (places.1 (place ∙ sym q)) (kind.1 r),
      )

pub same_fault : IsEqualityOfTold read_fault_view (fault_eq.ghosts).eq
same_fault a b fault is =
    alike_at read_fault_with (λ f. f.path) (λ f. f.reason) (λ at reason f e. (ap (λ (g : ReadFaultView). g.reason) e, ap (λ (g : ReadFaultView). g.path) e))
    _ _ (string_bytes a.path) (string_bytes b.path) (reason_of a.kind) (reason_of b.kind) fault is (same_text a.path b.path) (same_kind a.kind b.kind fault.reason)

-- ---- of values

pub same_step : IsEqualityBy step_of (step_eq.ghosts).eq
same_step a b = search rules

-- of what a told fault is told in
alike_within : {F G : Type 0} (make : F → G) → ((a b : F) → make a ≡ make b → a ≡ b) → (told other : Option F) (IsSame : Type 0)
    → ((f : F) → told ≡ Some f → IsSame ↔ (other ≡ Some f)) → (whole : G) → option_map make told ≡ Some whole
    → IsSame ↔ (option_map make other ≡ Some whole)
alike_within make one told other IsSame alike whole is = search rules

one_reason : (told : Option Reason) (cause : Cause) → option_map for_reason told ≡ Some cause → (reason : Reason) × (cause ≡ for_reason reason)
one_reason told cause is = search rules

pub same_cause : IsEqualityOfTold cause_of (cause_eq.ghosts).eq
same_cause (causes.NoDuration found) (causes.NoDuration other) cause is =
    let texts = same_text found other in
    (λ same. ap (λ (text : List ℕ). Some (no_duration text)) (sym (texts.0 same)) ∙ is, λ e. texts.1 (cc (is, e)))
same_cause (causes.Missing name) (causes.Missing other) cause is =
    let texts = same_text name other in
    (λ same. ap (λ (text : List ℕ). Some (missing_key text)) (sym (texts.0 same)) ∙ is, λ e. texts.1 (cc (is, e)))
same_cause (causes.Kind kind) (causes.Kind other) cause is =
    alike_within for_reason (λ a b e. cc e) (reason_of kind) (reason_of other) _ (same_kind kind other) cause is
same_cause (causes.Kind kind) (causes.NoDuration other) cause is = let one = one_reason (reason_of kind) cause is in (λ same. cc same, λ e. cc (e, one.1))
same_cause (causes.Kind kind) (causes.Missing other) cause is = let one = one_reason (reason_of kind) cause is in (λ same. cc same, λ e. cc (e, one.1))
same_cause (causes.NoDuration found) (causes.Kind other) cause is = (λ same. cc same, λ e. let one = one_reason (reason_of other) cause e in cc (is, one.1))
same_cause (causes.Missing name) (causes.Kind other) cause is = (λ same. cc same, λ e. let one = one_reason (reason_of other) cause e in cc (is, one.1))
same_cause a b cause is = search rules

pub same_value_fault : IsEqualityOfTold fault_of (value_eq.ghosts).eq
same_value_fault a b fault is =
    alike_at fault_with (λ f. f.steps) (λ f. f.cause) (λ at cause f e. (ap (λ (g : Fault). g.cause) e, ap (λ (g : Fault). g.steps) e))
    _ _ (map step_of a.steps.items) (map step_of b.steps.items) (cause_of a.cause) (cause_of b.cause) fault is
    (same_each step_of (step_eq.ghosts).eq same_step a.steps.items b.steps.items) (same_cause a.cause b.cause fault.cause)

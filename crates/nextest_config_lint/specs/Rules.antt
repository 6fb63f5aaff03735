-- The rules between the keys of a table, as far as the keys read, whatever else is wrong with it
-- (nextest's configuration reference).
use Rattle.std.specs.Prelude.{◌≡◌, ◌⊎◌, Option, Some, None}
use Rattle.std.proofs.Common.{ap₂, inl, inr, refl, subst, sym, ◌∙◌}
use Rattle.semver.specs.Parse.{Parts}
use Rattle.toml.specs.Data.{as_table, Data, Members}
use Rattle.nextest_config_values.specs.Decisions.{IsDecided, true_decided}
use Rattle.nextest_config_values.specs.Read.Fault.{Fault}
use Rattle.nextest_config_values.specs.Read.{broken_by, Check, either, optional, required_above_recommended}
use Rattle.nextest_config.specs.NextestVersion.{is_below, IsBelow, recommended_key, required_key, version_reading}
use Rattle.nextest_config_elements.specs.RetryRules.{retry_rules}
use Rattle.nextest_config_lint.specs.declared.settings.Rules.{Rules}
use Rattle.nextest_config_lint.specs.declared.settings.Rules.TheVariants.{Retries, Versions}

-- ---- the order of versions

-- what a table has at a key, if that is a version
abbrev pub IsRequired : Members → Option Parts → Type 0
IsRequired held = (optional required_key version_reading).means held

-- the same of the version that is recommended
abbrev pub IsRecommended : Members → Option Parts → Type 0
IsRecommended held = (optional recommended_key version_reading).means held

-- a table whose required version is above the recommended one
pub record IsOutOfOrder (held : Members) (fault : Fault) : Type 0 where
  pub required : Parts
  pub recommended : Parts
  pub there : IsRequired held (Some required) × IsRecommended held (Some recommended)
  pub is_below : IsBelow recommended required
  pub is : fault ≡ broken_by (required_above_recommended required recommended)

-- the versions that the table has are out of order
pub out_of_order : (held : Members) (a b : Parts) (fault : Fault) → IsRequired held (Some a)
    → IsRecommended held (Some b) → IsBelow b a
    → fault ≡ broken_by (required_above_recommended a b) → IsOutOfOrder held fault
out_of_order held a b fault there there_too below is = record {
  required = a;
  recommended = b;
  there = (there, there_too);
  is_below = below;
  is = is;
}

one_required : (held : Members) (x y : Option Parts) → IsRequired held x → IsRequired held y
    → x ≡ y
one_required = (optional required_key version_reading).law.one_meaning

one_recommended : (held : Members) (x y : Option Parts) → IsRecommended held x
    → IsRecommended held y → x ≡ y
one_recommended = (optional recommended_key version_reading).law.one_meaning

-- no table with these versions is out of order, since they are in order
kept_in_order : (held : Members) (a b : Parts) → IsRequired held (Some a)
    → IsRecommended held (Some b) → (IsBelow b a → ⊥) → (fault : Fault)
    → IsOutOfOrder held fault → ⊥
kept_in_order held a b there there_too kept fault out =
    let same : out.required ≡ a = cc
    (one_required held (Some out.required) (Some a) out.there.0 there) in
    let same_too : out.recommended ≡ b = cc
    (one_recommended held (Some out.recommended) (Some b) out.there.1 there_too) in
    kept (subst (λ (version : Parts). IsBelow version a) same_too
    (subst (λ (version : Parts). IsBelow out.recommended version) same out.is_below))

in_order_or_not : (held : Members) (a b : Parts) → IsRequired held (Some a)
    → IsRecommended held (Some b) → IsDecided (IsBelow b a)
    → ((fault : Fault) → IsOutOfOrder held fault → ⊥)
    ⊎ ((fault : Fault) × IsOutOfOrder held fault)
in_order_or_not held a b there there_too (inl below) =
    inr (_, out_of_order held a b _ there there_too below refl)
in_order_or_not held a b there there_too (inr kept) =
    inl (kept_in_order held a b there there_too kept)

pub ordered_by : (held : Members)
    → ((x : Option Parts) × IsRequired held x)
    ⊎ ((f : Fault) × (optional required_key version_reading).faults held f)
    → ((x : Option Parts) × IsRecommended held x)
    ⊎ ((f : Fault) × (optional recommended_key version_reading).faults held f)
    → ((fault : Fault) → IsOutOfOrder held fault → ⊥)
    ⊎ ((fault : Fault) × IsOutOfOrder held fault)
ordered_by held (inl (Some a, there)) (inl (Some b, there_too)) =
    in_order_or_not held a b there there_too (true_decided (is_below b a))
ordered_by held (inl (None, there)) other = inl (λ fault out.
    cc (one_required held None (Some out.required) there out.there.0))
ordered_by held (inr (f, wrong)) other = inl (λ fault out.
    (optional required_key version_reading).law.never_both held (Some out.required) f
    out.there.0 wrong)
ordered_by held required (inl (None, there)) = inl (λ fault out.
    cc (one_recommended held None (Some out.recommended) there out.there.1))
ordered_by held required (inr (f, wrong)) = inl (λ fault out.
    (optional recommended_key version_reading).law.never_both held (Some out.recommended) f
    out.there.1 wrong)

pub one_out_of_order : (held : Members) (f g : Fault) → IsOutOfOrder held f
    → IsOutOfOrder held g → f ≡ g
one_out_of_order held f g a b =
    let same : a.required ≡ b.required = cc (one_required held (Some a.required)
    (Some b.required) a.there.0 b.there.0) in
    let same_too : a.recommended ≡ b.recommended = cc (one_recommended held
    (Some a.recommended) (Some b.recommended) a.there.1 b.there.1) in
    a.is ∙ ap₂ (λ (x y : Parts). broken_by (required_above_recommended x y)) same same_too
    ∙ sym b.is

-- the required version isn't above the recommended one, where both read
abbrev pub order_check : Check Members
order_check = record {
  passes = λ held. (fault : Fault) → IsOutOfOrder held fault → ⊥;
  faults = IsOutOfOrder;
  passes_or_faults = λ held. ordered_by held
      ((optional required_key version_reading).law.meaning_or_fault held)
      ((optional recommended_key version_reading).law.meaning_or_fault held);
  one_fault = one_out_of_order;
  never_both = λ held fault kept out. kept fault out;
}

-- ---- of a value

module _ (check : Check Members) where
  abbrev PassesIn : Option Members → Type 0
  PassesIn found = either found check.passes (Unit {0})

  abbrev FaultsIn : Option Members → Fault → Type 0
  FaultsIn found fault = either found (λ held. check.faults held fault) ⊥

  pub passes_or_faults_in : (found : Option Members)
      → PassesIn found ⊎ ((fault : Fault) × FaultsIn found fault)
  passes_or_faults_in (Some held) = check.passes_or_faults held
  passes_or_faults_in None = inl tt

  pub one_fault_in : (found : Option Members) (f g : Fault) → FaultsIn found f → FaultsIn found g
      → f ≡ g
  one_fault_in (Some held) f g a b = check.one_fault held f g a b
  one_fault_in None f g a b = absurd a

  pub never_both_in : (found : Option Members) (fault : Fault) → PassesIn found
      → FaultsIn found fault → ⊥
  never_both_in (Some held) fault a b = check.never_both held fault a b
  never_both_in None fault a b = b

-- a value is checked, if it is a table (TOML 1.1, "Table")
abbrev pub if_table : Check Members → Check Data
if_table check = record {
  passes = λ value. either (as_table value) check.passes (Unit {0});
  faults = λ value fault. either (as_table value) (λ held. check.faults held fault) ⊥;
  passes_or_faults = λ value. passes_or_faults_in check (as_table value);
  one_fault = λ value. one_fault_in check (as_table value);
  never_both = λ value. never_both_in check (as_table value);
}

-- the rules between the keys of a value, if it is a table
abbrev pub rules_check : Rules → Check Data
rules_check Versions = if_table order_check
rules_check Retries = if_table retry_rules

-- What the readers of settings take for keys that a table lacks.
use Rattle.std.proofs.Common.{◌≡◌, ◌≢◌, ◌⊎◌, ℕ, List, Option, Some, None, IsSome, inl, inr, subst, sym}
use Rattle.toml.specs.Data.{Data, get_member, Members}
use Rattle.nextest_config_values.specs.Read.{either, optional, or_default, Reading, required}
use Rattle.nextest_config_elements.specs.FromTable.{set_by_table}
use Rattle.nextest_config_elements.specs.UnknownKeys.{IsOneOf}
use Rattle.nextest_config_elements.specs.UnknownKeysLaws.{keys_check}
use Rattle.nextest_config_profiles.specs.AbsentKeys.{IsPutIn, TakesFor}
use Rattle.nextest_config_profiles.proofs.TakesAlike.{Passes, Takes, takes_kind}

-- ---- tables of which one has a value more

module _ (key : List ℕ) (value : Data) where
  -- the one table is the other one with the value put in
  abbrev pub Related : Members → Members → Type 0
  Related a b = IsPutIn key value a b ⊎ IsPutIn key value b a

  same_at : (other : List ℕ) → other ≢ key → (a b : Members) → Related a b → get_member other a ≡ get_member other b
  same_at other differs a b (inl put) = sym (put.others other differs)
  same_at other differs a b (inr put) = put.others other differs

  -- the first of them lacks the key, or has the value there
  pub lacks_or_has : (a b : Members) → Related a b → (get_member key a ≡ None) ⊎ (get_member key a ≡ Some value)
  lacks_or_has a b (inl put) = inl put.lacks
  lacks_or_has a b (inr put) = inr put.has

  -- ---- another key

  module _ {X : Type 0} (other : List ℕ) (differs : other ≢ key) (reading : Reading Data X) where
    pub takes_other_required : Takes Related (required other reading)
    takes_other_required = takes_kind (λ v. record { means_too = λ a b related x meant. meant }) (record { means_too = λ a b related x meant. meant })
        (get_member other) (same_at other differs)

    pub takes_other_optional : Takes Related (optional other reading)
    takes_other_optional = takes_kind (λ v. record { means_too = λ a b related x meant. meant }) (record { means_too = λ a b related x meant. meant })
        (get_member other) (same_at other differs)

    pub takes_other_default : (default : X) → Takes Related (or_default other default reading)
    takes_other_default default = takes_kind (λ v. record { means_too = λ a b related x meant. meant }) (record { means_too = λ a b related x meant. meant })
        (get_member other) (same_at other differs)

  -- no other keys, in both
  pub passes_known : (known expected : List (List ℕ)) → IsOneOf known key → Passes Related (keys_check known expected)
  passes_known known expected is_known = record {
    passes_too = λ a b related passed name unknown.
        passed name (subst IsSome (sym (same_at name (λ same. unknown.1 (subst (IsOneOf known) (sym same) is_known)) a b related)) unknown.0, unknown.1);
  }

  -- ---- the key itself

  module _ {X : Type 0} (reading : Reading Data X) (default : X) (means_default : reading.means value default) where
    abbrev MeansFound : Option Data → X → Type 0
    MeansFound found x = either found (λ v. reading.means v) (λ y. y ≡ default) x

    means_both : (a b : Members) → Related a b → (x : X) → MeansFound (get_member key a) x → MeansFound (get_member key b) x
    means_both a b (inl put) x meant =
        let same : x ≡ default = subst (λ found. MeansFound found x) put.lacks meant in
        subst (λ found. MeansFound found x) (sym put.has) (subst (reading.means value) (sym same) means_default)
    means_both a b (inr put) x meant =
        let here : reading.means value x = subst (λ found. MeansFound found x) put.has meant in
        subst (λ found. MeansFound found x) (sym put.lacks) (reading.law.one_meaning value x default here means_default)

    pub takes_itself : Takes Related (or_default key default reading)
    takes_itself = record { means_too = means_both }

  -- ---- a setting

  pub of_table : {X : Type 0} (reading : Reading Members X) (expected : List ℕ) → Takes Related reading → TakesFor (set_by_table reading expected) key value
  of_table reading expected takes = record {
    means_same = λ lacking filled put x. (
      λ meant. (meant.0, takes.means_too lacking filled (inl put) meant.0 meant.1, meant.2),
      λ meant. (meant.0, takes.means_too filled lacking (inr put) meant.0 meant.1, meant.2),
    );
  }

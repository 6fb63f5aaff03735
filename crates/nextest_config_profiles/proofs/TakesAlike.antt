-- Readings that take values with the same leaves alike.
use Rattle.std.proofs.Common.{◌≡◌, ℕ, List, Option, Some, None, sym, subst, ◌⊎◌, inl, inr}
use Rattle.toml.specs.Data.{Data, get_member, Members, table}
use Rattle.nextest_config_values.specs.Read.{after_check, at_key, Check, either, in_memory, kind, made_of, only, optional, or_default, Reading, required, then, wrong_kind}
use Rattle.nextest_config_elements.specs.FromTable.{set_by_table}
use Rattle.nextest_config_elements.specs.UnknownKeysLaws.{keys_check}
use Rattle.nextest_config_profiles.specs.Alike.{AreAlike, TakesAlike}
use Rattle.nextest_config_profiles.proofs.Alike.{alike_cases, AlikeFound, AlikeMembers, found_too, told_alike}

-- a reading means of what is so related what it means of the first
pub record Takes {D X : Type 0} (R : D → D → Type 0) (reading : Reading D X) : Type 0 where
  pub means_too : (v w : D) → R v w → (x : X) → reading.means v x → reading.means w x

-- a check passes of what is so related what it passes of the first
pub record Passes {D : Type 0} (R : D → D → Type 0) (check : Check D) : Type 0 where
  pub passes_too : (v w : D) → R v w → check.passes v → check.passes w

pub of_values : {X : Type 0} {reading : Reading Data X} → Takes AreAlike reading → TakesAlike reading
of_values takes = record { means_alike = takes.means_too }

-- ---- readings that are put together

pub takes_made : {D X Y : Type 0} {R : D → D → Type 0} {reading : Reading D X} (make : X → Y) → Takes R reading → Takes R (made_of make reading)
takes_made make takes = record { means_too = λ v w related y meant. (meant.0, takes.means_too v w related meant.0 meant.1, meant.2) }

pub takes_then : {D X Y : Type 0} {R : D → D → Type 0} {first : Reading D X} {later : X → Reading D Y}
    → Takes R first → ((x : X) → Takes R (later x)) → Takes R (then first later)
takes_then takes takes_later = record {
  means_too = λ v w related y meant. (
    meant.0,
    takes.means_too v w related meant.0 meant.1,
    (takes_later meant.0).means_too v w related y meant.2,
  );
}

pub takes_checked : {D X : Type 0} {R : D → D → Type 0} {check : Check D} {reading : Reading D X}
    → Passes R check → Takes R reading → Takes R (after_check check reading)
takes_checked passes takes = record { means_too = λ v w related x meant. (passes.passes_too v w related meant.0, takes.means_too v w related x meant.1) }

pub takes_kept : {D X : Type 0} {R : D → D → Type 0} {reading : Reading D X} → Takes R reading → Takes R (in_memory reading)
takes_kept takes = record { means_too = takes.means_too }

-- nothing is asked of the value
pub takes_only : {D X : Type 0} {R : D → D → Type 0} (result : X) → Takes {D = D} R (only result)
takes_only result = record { means_too = λ v w related x meant. meant }

pub takes_none : {X : Type 0} {R : Data → Data → Type 0} (expected : List ℕ) → Takes {X = X} R (wrong_kind expected)
takes_none expected = record { means_too = λ v w related x meant. meant }

module _ {D K X : Type 0} {R : D → D → Type 0} {by : K → Reading D X} {rest : Reading D X} (takes_by : (k : K) → Takes R (by k)) (takes_rest : Takes R rest) where
  taken : (v w : D) (x : X) → R v w → (found : Option K) → either found (λ k. (by k).means v) (rest.means v) x → either found (λ k. (by k).means w) (rest.means w) x
  taken v w x related (Some k) meant = (takes_by k).means_too v w related x meant
  taken v w x related None meant = takes_rest.means_too v w related x meant

  pub takes_kind : (accessor : D → Option K) → ((v w : D) → R v w → accessor v ≡ accessor w) → Takes R (kind accessor by rest)
  takes_kind accessor same = record {
    means_too = λ v w related x meant.
        subst (λ found. either found (λ k. (by k).means w) (rest.means w) x) (same v w related) (taken v w x related (accessor v) meant);
  }

-- ---- members

module _ {X : Type 0} {held : Reading Data X} (takes_held : Takes AreAlike held) {rest : Reading Members X} (takes_rest : Takes AlikeMembers rest) where
  found_taken : (a b : Members) (x : X) → AlikeMembers a b → (found other : Option Data) → AlikeFound found other
      → either found (λ v. held.means v) (rest.means a) x → either other (λ v. held.means v) (rest.means b) x
  found_taken a b x alike None None both meant = takes_rest.means_too a b alike x meant
  found_taken a b x alike (Some v) (Some w) both meant = takes_held.means_too v w both x meant
  found_taken a b x alike found other both meant = absurd both

  pub takes_key : (name : List ℕ) → Takes AlikeMembers (kind (get_member name) (at_key name held) rest)
  takes_key name = record { means_too = λ a b alike x meant. found_taken a b x alike (get_member name a) (get_member name b) (alike name) meant }

module _ {X : Type 0} {reading : Reading Data X} (name : List ℕ) (takes : Takes AreAlike reading) where
  pub takes_required : Takes AlikeMembers (required name reading)
  takes_required = takes_key takes (record { means_too = λ a b alike x meant. meant }) name

  pub takes_optional : Takes AlikeMembers (optional name reading)
  takes_optional = takes_key (takes_made Some takes) (takes_only None) name

  pub takes_default : (default : X) → Takes AlikeMembers (or_default name default reading)
  takes_default default = takes_key takes (takes_only default) name

-- no other keys, in both
pub passes_keys : (known expected : List (List ℕ)) → Passes AlikeMembers (keys_check known expected)
passes_keys known expected = record {
  passes_too = λ a b alike passed key unknown.
      passed key (found_too (get_member key a) (get_member key b) (alike key) unknown.0, unknown.1);
}

-- ---- values

-- a table, or nothing
module _ {X : Type 0} {of_table : Reading Members X} (takes : Takes AlikeMembers of_table) (expected : List ℕ) where
  abbrev Means : Data → Option X → Type 0
  Means value x = (set_by_table of_table expected).means value x

  table_taken : (v w : Data) (x : Option X) → (w ≡ v) ⊎ ((a b : Members) × (v ≡ table a) × (w ≡ table b) × AlikeMembers a b) → Means v x → Means w x
  table_taken v w x (inl same) meant = subst (λ value. Means value x) (sym same) meant
  table_taken v w x (inr (a, b, is, other, alike)) meant =
      let read = subst (λ value. Means value x) is meant in
      subst (λ value. Means value x) (sym other) (read.0, takes.means_too a b alike read.0 read.1, read.2)

  pub takes_table : Takes AreAlike (set_by_table of_table expected)
  takes_table = record { means_too = λ v w alike x meant. table_taken v w x (alike_cases v w alike) meant }

-- a value of another kind than tables
module _ {K X : Type 0} {by : K → Reading Data X} {rest : Reading Data X} (takes_by : (k : K) → Takes AreAlike (by k)) (takes_rest : Takes AreAlike rest) where
  pub takes_value : (accessor : Data → Option K) → ((members : Members) → accessor (table members) ≡ None) → Takes AreAlike (kind accessor by rest)
  takes_value accessor tables = takes_kind takes_by takes_rest accessor (told_alike accessor tables)

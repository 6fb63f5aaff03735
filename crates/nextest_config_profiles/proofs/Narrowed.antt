-- What is left of a report where some keys alone are wanted.
use Rattle.std.proofs.Common.{◌≡◌, ◌∙◌, ◌||◌, ◌∷◌, Bool, List, [], Vec, Global, ap, cond, filter, map, refl, rules, subst}
use Rattle.std.specs.List.{list_any}
use Rattle.std.specs.List.Retain.{RetainsInTurn}
use Rattle.nextest_config_profiles.specs.Report.Narrowed.{has_rows, rows_wanted, settings_wanted}
use Rattle.nextest_config_profiles.specs.Said.{Path}
use Rattle.nextest_config_profiles.specs.declared.report.parts.Row.{Row}

-- whether some element passes a test of what is seen of it
pub any_mapped : {X Y : Type 0} (test : Y → Bool) (seen : X → Y) (xs : List X) → list_any (λ x. test (seen x)) xs ≡ list_any test (map seen xs)
any_mapped test seen [] = refl
any_mapped test seen (x ∷ xs) = ap (λ rest. test (seen x) || rest) (any_mapped test seen xs)

-- the rows of a setting that is kept where some are left
module _ (wanted : List Path) where
  kept_by : (some : Bool) (rows : Vec Row Global) (rest : List (Vec Row Global)) (left : List Row) (others : List (List Row)) → rows.items ≡ left → some ≡ has_rows left
      → map (λ rows. rows.items) rest ≡ filter has_rows others → map (λ rows. rows.items) (cond some (rows ∷ rest) rest) ≡ filter has_rows (left ∷ others)
  kept_by some rows rest left others same has so_far = search (rules)

  pub settings_left : {F : Type 0} (R : F → Vec Row Global → Bool → F → Vec Row Global → Type 0) (f : F)
      → ((x : Vec Row Global) (b : Bool) (g : F) (y : Vec Row Global) → R f x b g y → (y.items ≡ rows_wanted wanted x.items) × (b ≡ has_rows y.items) × (g ≡ f))
      → (xs ys : List (Vec Row Global)) → RetainsInTurn R f xs ys → map (λ rows. rows.items) ys ≡ settings_wanted wanted (map (λ rows. rows.items) xs)
  settings_left R f says [] ys kept = ap (map (λ rows. rows.items)) kept
  settings_left R f says (x ∷ xs) ys (b, g, y, called, zs, rest, whole) =
      let said = says x b g y called in
      let again = subst (λ f. RetainsInTurn R f xs zs) said.2 rest in
      ap (map (λ rows. rows.items)) whole
      ∙ kept_by b y zs (rows_wanted wanted x.items) (map (rows_wanted wanted) (map (λ rows. rows.items) xs)) said.0 (said.1 ∙ ap has_rows said.0) (settings_left R f says xs zs again)

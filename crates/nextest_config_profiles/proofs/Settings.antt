-- The settings that the table of keys has.
use Rattle.std.proofs.Common.{◌≡◌, ◌∙◌, ◌++◌, ◌∷◌, ◌&&◌, ◌||◌, ◌<◌, ◌+◌, ◌==◌, ℕ, Bool, true, false, List, [], ap, append-nil, append_assoc, arith, drop, eqb-true, get_or, if◌then◌else◌, length, map, refl, sym}
use Rattle.std.proofs.lemmas.List.{drop_more}
use Rattle.std.proofs.lemmas.List.Folds.{list_any-append}
use Rattle.std.specs.List.{list_any}
use Rattle.nextest_config_elements.proofs.Levels.{first_field}
use Rattle.nextest_config_elements.specs.Fields.{Fields, fields_view}
use Rattle.nextest_config_elements.specs.Keys.{profile_fields}
use Rattle.nextest_config_elements.specs.declared.field.Field as declared
use Rattle.nextest_config_profiles.specs.Report.Setting.{all_settings, is_setting, member_of, parts_in, rules_in, SettingRule, settings_at, settings_below, table_fields}
use Rattle.nextest_config_profiles.specs.Said.{Path}

-- what fields say of their keys, in the code's table
pub rules_seen : (known : List declared.Field) → map member_of known ≡ rules_in (fields_view known)
rules_seen [] = refl
rules_seen (first ∷ known) = ap (λ rules. member_of first ∷ rules) (rules_seen known) ∙ ap rules_in (sym (first_field first known))

-- those so far, and those that are left, once the settings of one more table are there
pub one_table_more : (known : List declared.Field) (i : ℕ) (d : declared.Field) (all so_far whole : List SettingRule) (inside : Fields) → i < length known
    → inside ≡ table_fields (member_of (get_or known i d)).shape (parts_in (get_or known i d)) → all ≡ so_far ++ settings_at ((member_of (get_or known i d)).key ∷ []) inside
    → so_far ++ settings_below (fields_view (drop i known)) ≡ whole → all ++ settings_below (fields_view (drop (i + 1) known)) ≡ whole
one_table_more known i d all so_far whole inside within is_inside pushed are =
    let next = get_or known i d in
    let rest = drop (i + 1) known in
    let more = settings_at ((member_of next).key ∷ []) (table_fields (member_of next).shape (parts_in next)) in
    ap (λ front. front ++ settings_below (fields_view rest)) (pushed ∙ ap (λ known. so_far ++ settings_at ((member_of next).key ∷ []) known) is_inside)
    ∙ append_assoc so_far more (settings_below (fields_view rest))
    ∙ ap (λ left. so_far ++ left) (sym (ap (λ left. settings_below (fields_view left)) (drop_more known i d within) ∙ ap settings_below (first_field next rest)))
    ∙ are

-- a table without fields adds no settings
no_settings : (above : Path) (so_far : List SettingRule) (known : List declared.Field) (none : Bool) → none ≡ (length known == 0) → none ≡ true
    → so_far ≡ so_far ++ settings_at above (fields_view known)
no_settings above so_far [] none is so = sym (append-nil so_far)
no_settings above so_far (first ∷ known) none is so = absurd (omega (arith, eqb-true (length (first ∷ known)) 0 (sym is ∙ so)))

-- those so far stay all that are there, where the next field is no table with fields
pub no_table_more : (known : List declared.Field) (i : ℕ) (d : declared.Field) (so_far whole : List SettingRule) (inside : List declared.Field) (none : Bool) → i < length known
    → fields_view inside ≡ table_fields (member_of (get_or known i d)).shape (parts_in (get_or known i d)) → none ≡ (length inside == 0) → none ≡ true
    → so_far ++ settings_below (fields_view (drop i known)) ≡ whole → so_far ++ settings_below (fields_view (drop (i + 1) known)) ≡ whole
no_table_more known i d so_far whole inside none within is_inside is so =
    one_table_more known i d so_far so_far whole (fields_view inside) within is_inside (no_settings ((member_of (get_or known i d)).key ∷ []) so_far inside none is so)

-- ---- whether something holds of the keys of a setting

module _ (test : Path → Bool) where
  abbrev pub holds : SettingRule → Bool
  holds setting = test setting.keys

  counted : (counts : Bool) (setting : SettingRule) (rest : List SettingRule) (so_far : Bool) → so_far ≡ list_any holds rest
      → ((counts && holds setting) || so_far) ≡ list_any holds (if counts then setting ∷ rest else rest)
  counted true setting rest so_far same = ap (λ more. holds setting || more) same
  counted false setting rest so_far same = same

  pub any_at : (above : Path) (known : List declared.Field)
      → list_any (λ f. is_setting above (member_of f).absent && test (above ++ ((member_of f).key ∷ []))) known ≡ list_any holds (settings_at above (fields_view known))
  any_at above [] = refl
  any_at above (first ∷ known) =
      counted (is_setting above (member_of first).absent) _ _ _ (any_at above known) ∙ ap (λ all. list_any holds (settings_at above all)) (sym (first_field first known))

  pub any_below : (known : List declared.Field)
      → list_any (λ f. list_any holds (settings_at ((member_of f).key ∷ []) (table_fields (member_of f).shape (parts_in f)))) known ≡ list_any holds (settings_below (fields_view known))
  any_below [] = refl
  any_below (first ∷ known) =
      let inside = settings_at ((member_of first).key ∷ []) (table_fields (member_of first).shape (parts_in first)) in
      ap (λ more. list_any holds inside || more) (any_below known) ∙ sym (list_any-append holds inside (settings_below (fields_view known)))
      ∙ ap (λ all. list_any holds (settings_below all)) (sym (first_field first known))

  some_of_all : (own : Bool) → list_any holds (settings_at [] profile_fields) ≡ own → list_any holds all_settings ≡ (own || list_any holds (settings_below profile_fields))
  some_of_all own is = list_any-append holds (settings_at [] profile_fields) (settings_below profile_fields) ∙ ap (λ some. some || list_any holds (settings_below profile_fields)) is

  -- it holds of one of the profile itself
  pub some_itself : (own : Bool) → own ≡ true → own ≡ list_any holds (settings_at [] profile_fields) → own ≡ list_any holds all_settings
  some_itself own holds_here is = holds_here ∙ sym (some_of_all true (sym is ∙ holds_here))

  -- it holds of none of the profile itself
  pub some_below : (own inside : Bool) → own ≡ false → own ≡ list_any holds (settings_at [] profile_fields) → inside ≡ list_any holds (settings_below profile_fields) → inside ≡ list_any holds all_settings
  some_below own inside fails_here is is_inside = is_inside ∙ sym (some_of_all false (sym is ∙ fails_here))

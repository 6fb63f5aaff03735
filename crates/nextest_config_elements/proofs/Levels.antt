-- What fields say, and what stands in a value, one level at a time.
use Rattle.std.proofs.Common.{◌≡◌, List, ◌∷◌, sym, ap, ◌∙◌}
use Rattle.std.specs.Borrow.{Bor}
use Rattle.nextest_config_elements.specs.Fields.{by_backoff, elements, elements_or_fields, features, field, field_before, Fields, fields, fields_view, level_of_field, level_of_parts, names, nothing, Parts, parts_of, rule_of, versions}
use Rattle.nextest_config_elements.specs.declared.field.Field as declared_field
use Rattle.nextest_config_elements.specs.declared.field.Field.{fold-roll-Field, out-Field, roll-Field, roll-out-Field}
use Rattle.nextest_config_elements.specs.declared.field.Parts as declared_parts
use Rattle.nextest_config_elements.specs.declared.field.Parts.{fold-roll-Parts}
use Rattle.nextest_config_elements.specs.declared.field.Parts.TheBlock as block
use Rattle.nextest_config_elements.specs.declared.field.Parts.TheOpen.{Field-F, Parts-F}
use Rattle.nextest_config_elements.specs.declared.field.Parts.TheViews as views
use Rattle.nextest_config_elements.specs.declared.field.Shape.{Shape}

-- ---- fields

pub made_before : (known : Field-F declared_parts.Parts declared_field.Field) (rest : Fields) → field_before (roll-Field known) rest ≡ field (rule_of known) (parts_of known.parts) rest
made_before known rest = ap (λ before. before rest) (fold-roll-Field Parts (Fields → Fields) level_of_parts level_of_field known)

-- the first of fields, as code that is handed them sees it
pub first_field : (first : declared_field.Field) (rest : List declared_field.Field) → fields_view (first ∷ rest) ≡ field (rule_of (out-Field first)) (parts_of (out-Field first).parts) (fields_view rest)
first_field first rest = ap (λ known. field_before known (fields_view rest)) (sym (roll-out-Field first)) ∙ made_before (out-Field first) (fields_view rest)

-- ---- what stands in a value

pub parts_nothing : parts_of block.Nothing ≡ nothing
parts_nothing = ap parts_of (sym views.rolls-Nothing) ∙ fold-roll-Parts Parts (Fields → Fields) level_of_parts level_of_field Parts-F.Nothing

pub parts_fields : (known : Bor (List declared_field.Field)) → parts_of (views.Fields known) ≡ fields (fields_view known.now)
parts_fields known = ap parts_of (sym (views.rolls-Fields known)) ∙ fold-roll-Parts Parts (Fields → Fields) level_of_parts level_of_field (Parts-F.Fields known)

pub parts_versions : (known : Bor (List declared_field.Field)) → parts_of (views.Versions known) ≡ versions (fields_view known.now)
parts_versions known = ap parts_of (sym (views.rolls-Versions known)) ∙ fold-roll-Parts Parts (Fields → Fields) level_of_parts level_of_field (Parts-F.Versions known)

pub parts_features : (known : Bor (List declared_field.Field)) → parts_of (views.Features known) ≡ features (fields_view known.now)
parts_features known = ap parts_of (sym (views.rolls-Features known)) ∙ fold-roll-Parts Parts (Fields → Fields) level_of_parts level_of_field (Parts-F.Features known)

pub parts_by_backoff : (fixed exponential without : Bor (List declared_field.Field)) → parts_of (views.Retries fixed exponential without) ≡ by_backoff (fields_view fixed.now) (fields_view exponential.now) (fields_view without.now)
parts_by_backoff fixed exponential without = ap parts_of (sym (views.rolls-Retries fixed exponential without))
    ∙ fold-roll-Parts Parts (Fields → Fields) level_of_parts level_of_field (Parts-F.Retries fixed exponential without)

pub parts_names : (shape : Shape) (each : Bor declared_parts.Parts) → parts_of (views.Names shape each) ≡ names shape (parts_of each.now)
parts_names shape each = ap parts_of (sym (views.rolls-Names shape each)) ∙ fold-roll-Parts Parts (Fields → Fields) level_of_parts level_of_field (Parts-F.Names shape each)

pub parts_elements : (shape : Shape) (each : Bor declared_parts.Parts) → parts_of (views.Elements shape each) ≡ elements shape (parts_of each.now)
parts_elements shape each = ap parts_of (sym (views.rolls-Elements shape each)) ∙ fold-roll-Parts Parts (Fields → Fields) level_of_parts level_of_field (Parts-F.Elements shape each)

pub parts_elements_or_fields : (shape : Shape) (known : Bor (List declared_field.Field)) → parts_of (views.ElementsOrFields shape known) ≡ elements_or_fields shape (fields_view known.now)
parts_elements_or_fields shape known = ap parts_of (sym (views.rolls-ElementsOrFields shape known))
    ∙ fold-roll-Parts Parts (Fields → Fields) level_of_parts level_of_field (Parts-F.ElementsOrFields shape known)

-- ---- a whole table, row by row

pub row : (known : Field-F declared_parts.Parts declared_field.Field) (parts : Parts) (rest others : Fields) → parts_of known.parts ≡ parts → rest ≡ others → field_before (roll-Field known) rest ≡ field (rule_of known) parts others
row known parts rest others of_parts of_rest = made_before known rest ∙ ap (λ p. field (rule_of known) p rest) of_parts ∙ ap (field (rule_of known) parts) of_rest

pub table : (known : Bor (List declared_field.Field)) (all : Fields) → fields_view known.now ≡ all → parts_of (views.Fields known) ≡ fields all
table known all of_fields = parts_fields known ∙ ap fields of_fields

pub versions_table : (known : Bor (List declared_field.Field)) (all : Fields) → fields_view known.now ≡ all → parts_of (views.Versions known) ≡ versions all
versions_table known all of_fields = parts_versions known ∙ ap versions of_fields

pub features_table : (known : Bor (List declared_field.Field)) (all : Fields) → fields_view known.now ≡ all → parts_of (views.Features known) ≡ features all
features_table known all of_fields = parts_features known ∙ ap features of_fields

pub table_by_backoff : (fixed exponential without : Bor (List declared_field.Field)) (f e w : Fields) → fields_view fixed.now ≡ f → fields_view exponential.now ≡ e → fields_view without.now ≡ w
    → parts_of (views.Retries fixed exponential without) ≡ by_backoff f e w
table_by_backoff fixed exponential without f e w of_fixed of_exponential of_without =
    parts_by_backoff fixed exponential without ∙ ap (λ g. by_backoff g (fields_view exponential.now) (fields_view without.now)) of_fixed
    ∙ ap (λ g. by_backoff f g (fields_view without.now)) of_exponential ∙ ap (by_backoff f e) of_without

pub each_name : (shape : Shape) (each : Bor declared_parts.Parts) (parts : Parts) → parts_of each.now ≡ parts → parts_of (views.Names shape each) ≡ names shape parts
each_name shape each parts of_each = parts_names shape each ∙ ap (names shape) of_each

pub each_element : (shape : Shape) (each : Bor declared_parts.Parts) (parts : Parts) → parts_of each.now ≡ parts → parts_of (views.Elements shape each) ≡ elements shape parts
each_element shape each parts of_each = parts_elements shape each ∙ ap (elements shape) of_each

pub elements_or_table : (shape : Shape) (known : Bor (List declared_field.Field)) (all : Fields) → fields_view known.now ≡ all
    → parts_of (views.ElementsOrFields shape known) ≡ elements_or_fields shape all
elements_or_table shape known all of_fields = parts_elements_or_fields shape known ∙ ap (elements_or_fields shape) of_fields

-- What a value has to be, but for what stands in it: what each shape takes, and what is wrong with
-- a value that it doesn't take.
pub mod Forms
use Rattle.std.specs.Prelude.{◌≡◌, ◌⊎◌, ℕ, Bool, true, false, List, codes, Option, Some, None, IsSome, IfErr, OnOk, Result}
use Rattle.std.proofs.Common.{inl, inr, refl, sym, ◌∙◌, subst}
use Rattle.toml.specs.Data.{Data, as_array, as_table}
use Rattle.nextest_config_values.specs.Helpers.PathsLaws.{relative_path_reading}
use Rattle.nextest_config_values.specs.Read.Fault.{Fault}
use Rattle.nextest_config_values.specs.Read.{Always, Check, either, meaning, Refuses, text_reading, wrong_type}
use Rattle.nextest_config_values.specs.declared.read.value_fault.ValueFault.{ValueFault}
use Rattle.nextest_config.specs.NextestVersion.{features_under, version_reading, versions_reading}
use Rattle.nextest_config.specs.declared.nextest_version.edition.Edition.{Edition}
use Rattle.nextest_config.specs.declared.nextest_version.edition.Edition.TheVariants.{ArrayAllowed, TableOnly}
use Rattle.nextest_config_elements.specs.Readers.{read_by, reader_of, ReaderOf, unread}
use Rattle.nextest_config_elements.specs.declared.field.Shape.{Shape}
use Rattle.nextest_config_elements.specs.declared.field.Shape.TheVariants as shapes
use Rattle.nextest_config_lint.specs.Shapes.Forms.{command_form, command_line_form, depth_form, platform_form, scalar_form, texts_form, word_form}

-- any value is all right
abbrev pub any_check : Check Data
any_check = record {
  passes = λ value. Unit {0};
  faults = λ value fault. ⊥;
  passes_or_faults = λ value. inl tt;
  one_fault = λ value f g a b. absurd a;
  never_both = λ value f a b. b;
}

-- ---- by kind

pub something_or_nothing : {K : Type 0} (found : Option K) → IsSome found → found ≡ None → ⊥
something_or_nothing found some none = cc (subst IsSome none some)

pub some_or_wrong : {K : Type 0} (found : Option K) (fault : Fault)
    → IsSome found ⊎ ((f : Fault) × ((found ≡ None) × (f ≡ fault)))
some_or_wrong (Some k) fault = inl refl
some_or_wrong None fault = inr (fault, (refl, refl))

-- the value is of the kind that this accessor tells
abbrev pub kind_check : {K : Type 0} → (Data → Option K) → List ℕ → Check Data
kind_check accessor expected = record {
  passes = λ value. IsSome (accessor value);
  faults = λ value fault. (accessor value ≡ None) × (fault ≡ wrong_type value expected);
  passes_or_faults = λ value. some_or_wrong (accessor value) (wrong_type value expected);
  one_fault = λ value f g a b. a.1 ∙ sym b.1;
  never_both = λ value f a b. something_or_nothing (accessor value) a b.0;
}

module _ {K : Type 0} (check : Check Data) (value : Data) where
  abbrev PassesUnless : Option K → Type 0
  PassesUnless found = either found (λ k. Unit {0}) (check.passes value)

  abbrev FaultsUnless : Option K → Fault → Type 0
  FaultsUnless found fault = either found (λ k. ⊥) (check.faults value fault)

  pub passes_or_faults_unless : (found : Option K)
      → PassesUnless found ⊎ ((f : Fault) × FaultsUnless found f)
  passes_or_faults_unless (Some k) = inl tt
  passes_or_faults_unless None = check.passes_or_faults value

  pub one_fault_unless : (found : Option K) (f g : Fault) → FaultsUnless found f
      → FaultsUnless found g → f ≡ g
  one_fault_unless (Some k) f g a b = absurd a
  one_fault_unless None f g a b = check.one_fault value f g a b

  pub never_both_unless : (found : Option K) (f : Fault) → PassesUnless found
      → FaultsUnless found f → ⊥
  never_both_unless (Some k) f a b = b
  never_both_unless None f a b = check.never_both value f a b

-- a value of the kind that this accessor tells passes, since what stands in it is judged by itself;
-- any other is checked
abbrev pub unless : {K : Type 0} → (Data → Option K) → Check Data → Check Data
unless accessor check = record {
  passes = λ value. either (accessor value) (λ k. Unit {0}) (check.passes value);
  faults = λ value fault. either (accessor value) (λ k. ⊥) (check.faults value fault);
  passes_or_faults = λ value. passes_or_faults_unless check value (accessor value);
  one_fault = λ value. one_fault_unless check value (accessor value);
  never_both = λ value. never_both_unless check value (accessor value);
}

-- what a table or a value of another kind has to be, where a table is judged key by key (TOML 1.1,
-- "Table")
abbrev pub or_table : Check Data → Check Data
or_table = unless as_table

-- what `experimental` has to be under an edition: a table or, where that is allowed, an array
-- passes, since what stands in it is judged by itself (TOML 1.1, "Array" and "Table")
abbrev pub features_check : Edition → Check Data
features_check ArrayAllowed = or_table (unless as_array (meaning (features_under ArrayAllowed)))
features_check TableOnly = or_table (meaning (features_under TableOnly))

-- what an element of `experimental` has to be: a text; any value under an edition that refuses the
-- array itself
abbrev pub feature_name_check : Edition → Check Data
feature_name_check ArrayAllowed = meaning text_reading
feature_name_check TableOnly = any_check

-- the form of a value of a shape that no type reads: any, where none is named
abbrev pub form_check : Edition → Shape → Check Data
form_check edition shapes.Table = kind_check as_table (codes "a table")
form_check edition (shapes.RuledTable rule) = kind_check as_table (codes "a table")
form_check edition shapes.Array = kind_check as_array (codes "an array")
form_check edition shapes.NextestVersion = meaning versions_reading
form_check edition shapes.VersionText = meaning version_reading
form_check edition shapes.Experimental = features_check edition
form_check edition shapes.FeatureName = feature_name_check edition
form_check edition shapes.Text = meaning text_reading
form_check edition (shapes.Reference referent) = meaning text_reading
form_check edition shapes.Filter = meaning text_reading
form_check edition shapes.DefaultFilter = meaning text_reading
form_check edition shapes.Texts = kind_check as_array (codes "an array of strings")
form_check edition shapes.Platform = meaning platform_form
form_check edition shapes.PlatformText = meaning text_reading
form_check edition (shapes.Word list) = meaning (word_form list)
form_check edition shapes.Scalar = meaning scalar_form
form_check edition (shapes.References referent) = meaning texts_form
form_check edition shapes.Command = meaning command_form
form_check edition shapes.CommandLine = meaning command_line_form
form_check edition shapes.RelativePath = meaning relative_path_reading
form_check edition shapes.Depth = meaning depth_form
form_check edition shape = any_check

-- what the type that reads a value makes of it, or this where none does
abbrev pub read_check : Check Data → ReaderOf → Check Data
read_check form unread = form
read_check form (read_by seen reading) = meaning reading

-- tables of the shape are judged key by key
abbrev pub is_by_key : Shape → Bool
is_by_key shapes.NextestVersion = true
is_by_key shapes.Retries = true
is_by_key shapes.FailFast = true
is_by_key shapes.SlowTimeout = true
is_by_key shapes.LeakTimeout = true
is_by_key shape = false

-- a value that is judged key by key where it is a table, or as a whole
abbrev pub by_key : Bool → Check Data → Check Data
by_key true check = or_table check
by_key false check = check

-- what a value of a shape has to be, but for what stands in it
abbrev pub shape_check : Edition → Shape → Check Data
shape_check edition shape =
    by_key (is_by_key shape) (read_check (form_check edition shape) (reader_of shape))

-- the result says whether a value passes a check, unless memory ran out
abbrev pub IsChecked : Check Data → Data → Result (Unit {0}) ValueFault → Type 0
IsChecked check value result =
    OnOk result (check.passes value) × IfErr result (Refuses (check.faults value) Always)

-- Files that ask the version which a verdict names.
use Rattle.std.proofs.Common.{◌≡◌, ◌≢◌, ℕ, List, [], ◌∷◌, ◌++◌, Option, Some, None, IsSome, Bool, false, IfSome, ap, refl, rules, sym, subst, arith, ◌∙◌}
use Rattle.std.specs.Prelude.{Any, option_and_then}
use Rattle.std.specs.List.{AllByRecursion}
use Rattle.std.proofs.lemmas.List.Elements.{All-contains, All-from_recursion, Contains-append_left, Contains-append_right}
use Rattle.semver.specs.Parse.{Parts}
use Rattle.toml.specs.Data.{Data, get_member, Members, table}
use Rattle.toml.specs.Parse.{parse_document}
use Rattle.nextest_config_values.specs.Read.{either, no_data}
use Rattle.toml_spans.proofs.Elements.{all_joined}
use Rattle.nextest_config.specs.NextestVersion.{in_order, no_versions, SourcePlace, under, version_key, version_reading, version_table, Versions, versions, versions_reading, AreRead, error, IsReadAs, IsSelectedFor, Kept, named_place, not_met, role_from, satisfied, Shortfall, SourceAsk, verdict_by, verdict_in, warn}
use Rattle.nextest_config.specs.declared.nextest_version.edition.Edition.{Edition}
use Rattle.toml_spans.specs.Index.{IsIndexOf, IsSpanOf, ranges_in}
use Rattle.toml_spans.specs.Line.{found_below, found_in}
use Rattle.toml_spans.specs.Step.{PathStep}
use Rattle.toml_spans.specs.declared.index.Index.{Index}
use Rattle.toml_spans.specs.declared.place.Span.{Span}
use Rattle.nextest_config_lint.specs.File.{IsTextOf, range_at}
use Rattle.nextest_config.specs.NextestVersion.Verdict.{Verdict}
use Rattle.nextest_config.specs.declared.nextest_version.verdict.VersionRole.{VersionRole}
use Rattle.nextest_config.specs.declared.nextest_version.verdict.VersionRole.TheVariants.{Recommended, Required}
use Rattle.nextest_config.proofs.Verdicts.{from_source, unmet_alone}
use Rattle.nextest_config_command.specs.Asked.{AskedView, AsksAt, IsAskedBy, IsRangeAt, role_key, SomeAsks, version_path}
use Rattle.nextest_config_command.specs.FileList.{AreTexts, given_file, IsText, sources_of_files}
use Rattle.nextest_config_command.specs.Files.{File}
use Rattle.nextest_config_command.specs.Verdict.{IsAskedFor}
use Rattle.nextest_config_command.proofs.FileLists.{some_there}

-- ---- some of a list

-- what holds of some element of one list does so of one of both
pub any_left : {X : Type 0} (P : X → Type 0) (xs ys : List X) → Any P xs → Any P (xs ++ ys)
any_left P xs ys (k, x, within, is, holds) =
    let (i, there, same) = Contains-append_left xs ys x (k, within, is) in
    (i, x, there, same, holds)

pub any_right : {X : Type 0} (P : X → Type 0) (xs ys : List X) → Any P ys → Any P (xs ++ ys)
any_right P xs ys (k, x, within, is, holds) =
    let (i, there, same) = Contains-append_right xs ys x (k, within, is) in
    (i, x, there, same, holds)

-- what holds of no element of two lists holds of none of both
pub none_of_either : {X : Type 0} (P : X → Type 0) (xs ys : List X) → AllByRecursion (λ x. ¬ P x) xs → AllByRecursion (λ x. ¬ P x) ys → Any P (xs ++ ys) → ⊥
none_of_either P xs ys no_first no_second (k, x, within, is, holds) =
    All-contains (λ y. ¬ P y) (xs ++ ys) x (All-from_recursion (λ y. ¬ P y) (xs ++ ys) (all_joined (λ y. ¬ P y) xs ys no_first no_second)) (k, within, is) holds

-- ---- the range of a path

-- what the index of a text tells of a path is its range
pub range_reported : (text : List ℕ) (index : Index) (path : List PathStep) (span : Option Span) → IsIndexOf text index → IsSpanOf text (range_at false (ranges_in index) path) span → IfSome span (IsRangeAt text path)
range_reported text index path None of_text is = tt
range_reported text index path (Some span) of_text is = record { index = index; of_text = of_text; is_range = is }

-- ---- whether a file asks

-- a file of the place asks a version where the path of the role leads to a value
pub asked_here : (role : VersionRole) (place : SourcePlace) (asked : AskedView) (file : File) (text : List ℕ) (document : Members) → file.place ≡ place
    → IsTextOf file.contents text × (parse_document file.contents ≡ Some document) → asked.path ≡ version_path role document → IsSome (found_in document asked.path) → IsRangeAt text asked.path asked.span
    → IsAskedBy role place asked file
asked_here role place asked file text document at_place (is_text, reads) is_path leads is_span = record {
  asks = record { at_place = at_place; is_text = is_text.0; members = document; reads = reads; leads = rw is_path at leads };
  is_path = is_path;
  is_span = rw is_text.1 at is_span;
}

-- and nowhere else
pub asks_nowhere : (role : VersionRole) (place : SourcePlace) (file : File) (document : Members) (path : List PathStep) → parse_document file.contents ≡ Some document → path ≡ version_path role document
    → (IsSome (found_in document path) → ⊥) → ¬ AsksAt role place file
asks_nowhere role place file document path reads is none asks =
    let same : document ≡ asks.members = cc (reads, asks.reads) in
    none (rw (is, same) asks.leads)

-- ---- which source asks

-- the version that is asked in a role
abbrev version_in : VersionRole → Versions → Option Parts
version_in Required asked = asked.required
version_in Recommended asked = asked.recommended

-- what the verdict of a role tells
names_its_place : (role : VersionRole) (s : Shortfall) → named_place (verdict_in role s) ≡ Some s.place
names_its_place Required s = refl
names_its_place Recommended s = refl

not_satisfied : (role : VersionRole) (s : Shortfall) → verdict_in role s ≢ satisfied
not_satisfied Required s is = cc is
not_satisfied Recommended s is = cc is

-- a verdict of a role on what a source asks alone is on a version that it asks in this role
asked_alone : (place : SourcePlace) (asked : Versions) (current : Parts) (overridden : Bool) (role : VersionRole) (s : Shortfall) (required recommended : Option Kept)
    → not_met (role_from place asked.required) current ≡ required → not_met (role_from place asked.recommended) current ≡ recommended
    → verdict_by required recommended current overridden ≡ verdict_in role s → IsSome (version_in role asked)
asked_alone place asked current overridden Required s (Some kept) recommended first second is = some_there _ _ (unmet_alone place asked.required current kept first).0
asked_alone place asked current overridden Recommended s None (Some kept) first second is = some_there _ _ (unmet_alone place asked.recommended current kept second).0
asked_alone place asked current overridden role s required recommended first second is = search rules

-- ---- where it asks it

-- a key that means something is there
key_there : {X : Type 0} (Means : Data → X → Type 0) (found : Option Data) (read : Option X) → either {A = Option X → Type 0} found (λ value y. (x : X) × Means value x × (y ≡ Some x)) (λ y. y ≡ None) read → IsSome read → IsSome found
key_there Means (Some value) read means some = refl
key_there Means None read is some = absurd (cc (subst IsSome is some))

-- the versions of a table are those of its keys
kept_in_order : (required recommended : Option Parts) (read : Versions) → (in_order required recommended).means no_data read → read ≡ versions required recommended
kept_in_order (Some required) (Some recommended) read means = means.1
kept_in_order required recommended read means = means

-- a version that a table of versions asks stands at the key of its role
key_of_role : (role : VersionRole) (document : Members) (read : Versions) → version_table.means document read → IsSome (version_in role read) → IsSome (get_member (role_key role) document)
key_of_role Required document read (required, at_required, (recommended, at_recommended, ordered)) some =
    key_there version_reading.means _ required at_required (rw (kept_in_order required recommended read ordered) at some)
key_of_role Recommended document read (required, at_required, (recommended, at_recommended, ordered)) some =
    key_there version_reading.means _ recommended at_recommended (rw (kept_in_order required recommended read ordered) at some)

-- where no version is asked there is none in a role
no_version_in : (role : VersionRole) → IsSome (version_in role no_versions) → ⊥
no_version_in Required some = cc some
no_version_in Recommended some = cc some

-- a path that ends at a value leads to it
found_here : (found : Option Data) → IsSome found → IsSome (option_and_then (found_below []) found)
found_here (Some value) some = refl
found_here None some = some

-- a version that a document asks stands at the path of its role
leads_to_version : (role : VersionRole) (document : Members) (read : Versions) (found : Option Data) → get_member version_key document ≡ found
    → either {A = Versions → Type 0} found (λ value. versions_reading.means value) (λ asked. asked ≡ no_versions) read → IsSome (version_in role read) → IsSome (found_in document (version_path role document))
leads_to_version role document read None is means some = absurd (no_version_in role (rw means at some))
leads_to_version role document read (Some (table inner)) is means some = rw is (found_here _ (key_of_role role inner read means some))
leads_to_version role document read (Some value) is means some = rw is refl

-- ---- which file asks

module _ (edition : Edition) (role : VersionRole) (place : SourcePlace) where
  -- a file that is read as a source which asks a version in the role asks one at the place
  file_asks : (file : File) (asked : SourceAsk) → IsText file → IsReadAs (under edition (given_file file)) asked → IsSome (version_in role asked.ask.versions) → asked.place ≡ place → AsksAt role place file
  file_asks file asked text read some at_place =
      let (document, reads, asks) = read.read in
      record { at_place = sym read.place ∙ at_place; is_text = text; members = document; reads = reads; leads = leads_to_version role document asked.ask.versions _ refl asks.of_versions some }

  -- so does one of several files
  one_asks : (files : List File) (before after : List SourceAsk) (asked : SourceAsk) → AreTexts files → AreRead (sources_of_files edition files) (before ++ (asked ∷ after))
      → IsSome (version_in role asked.ask.versions) → asked.place ≡ place → SomeAsks files role place
  one_asks [] [] after asked texts read some at_place = absurd read
  one_asks [] (b ∷ before) after asked texts read some at_place = absurd read
  one_asks (file ∷ files) [] after asked texts read some at_place = (0, file, omega arith, refl, file_asks file asked texts.0 read.0 some at_place)
  one_asks (file ∷ files) (b ∷ before) after asked texts read some at_place =
      any_right (AsksAt role place) (file ∷ []) files (one_asks files before after asked texts.1 read.1 some at_place)

-- a verdict that is selected from those of files names the place of one that asks a version in the verdict's role
pub some_asks : (edition : Edition) (files : List File) (current : Parts) (overridden : Bool) (v : Verdict) (role : VersionRole) (s : Shortfall) → AreTexts files
    → IsSelectedFor (sources_of_files edition files) current overridden v → v ≡ verdict_in role s → SomeAsks files role s.place
some_asks edition files current overridden v role s texts (asked, read, selected) is =
    let from = from_source asked current overridden v selected (λ none. not_satisfied role s (sym is ∙ none)) in
    let same : Some from.source.place ≡ Some s.place = sym from.named ∙ ap named_place is ∙ names_its_place role s in
    let at_place : from.source.place ≡ s.place = cc same in
    one_asks edition role s.place files from.before from.after from.source texts (rw from.whole at read) (asked_alone from.source.place from.source.ask.versions current overridden role s _ _ refl refl (from.given ∙ is)) at_place

-- so some file asks for it, whatever the verdict
pub asked_for : (edition : Edition) (files : List File) (current : Parts) (overridden : Bool) (v : Verdict) → AreTexts files
    → IsSelectedFor (sources_of_files edition files) current overridden v → IsAskedFor files v
asked_for edition files current overridden satisfied texts selected = tt
asked_for edition files current overridden (warn s) texts selected = some_asks edition files current overridden (warn s) Recommended s texts selected refl
asked_for edition files current overridden (error s) texts selected = some_asks edition files current overridden (error s) Required s texts selected refl

-- The status of a lint, by what is found in its files.
use mathlib.Core.Logic.Iff as iff
use Rattle.std.specs.Prelude.{◌≡◌, ◌≢◌, ◌↔◌, ◌+◌, ◌||◌, ℕ, suc, Bool, false, true, List, [], ◌∷◌, ◌++◌, cond, count_by, filter, length, map, nat_lt, if◌then◌else◌}
use Rattle.std.proofs.Common.{ap, arith, refl}
use Rattle.std.proofs.lemmas.Bool.Decides.{nat_tests}
use Rattle.std.proofs.lemmas.Grind.{flat_map-append}
use Rattle.std.proofs.lemmas.List.Concat.{flat_map-cons}
use Rattle.std.proofs.lemmas.List.Sums.{sum_by-append, sum_by-cons}
use Rattle.std.specs.List.{AllByRecursion, AllZip}
use Rattle.toml_spans.proofs.Elements.{all_joined, all_left, all_right}
use Rattle.nextest_config_report.specs.ExitStatus.{exit_code}
use Rattle.nextest_config_report.specs.declared.exit_status.ExitStatus.{ExitStatus}
use Rattle.nextest_config_report.specs.declared.exit_status.ExitStatus.TheVariants.{NoOutcome}
use Rattle.nextest_config.specs.declared.nextest_version.edition.Edition.{Edition}
use Rattle.nextest_config_lint.proofs.NoErrorFiles.{no_error_in_file}
use Rattle.nextest_config_lint.specs.Defined.{ListFile}
use Rattle.nextest_config_lint.specs.FindingsLaws.{IsNoLocatedError}
use Rattle.nextest_config_lint.specs.declared.file.LocatedFinding.{LocatedFinding}
use Rattle.nextest_config_lint.specs.declared.finding.FindingSeverity.{FindingSeverity}
use Rattle.nextest_config_lint.specs.declared.finding.FindingSeverity.TheVariants.{Error, Note, Warning}
use Rattle.nextest_config_command.specs.Answer.{AnswerView, IsLinted, judging}
use Rattle.nextest_config_command.specs.FileFindings.{AreFound, as_list, FileFound, HasNoError, is_error, IsFoundAfter, IsFoundIn, tells}
use Rattle.nextest_config_command.specs.Files.{File}
use Rattle.nextest_config_command.specs.Found.{all_files, FilesRead}
use Rattle.nextest_config_command.specs.Lint.{failure_if, severities_in, severities_of, severity_of}
use Rattle.nextest_config_command.specs.Positions.{AllZipFrom}
use Rattle.nextest_config_command.specs.declared.request.LintOptions.{LintOptions}

-- ---- no error is counted

abbrev pub counted : List FindingSeverity → ℕ
counted severities = count_by is_error severities

abbrev pub HasNone : List FindingSeverity → Type 0
HasNone severities = counted severities ≡ 0

counted_cons : (severity : FindingSeverity) (rest : List FindingSeverity) → counted (severity ∷ rest) ≡ cond (is_error severity) 1 0 + counted rest
counted_cons severity rest = sum_by-cons (λ one. cond (is_error one) 1 0) severity rest

one_more : (severity : FindingSeverity) (rest : List FindingSeverity) → HasNone (severity ∷ rest) ↔ ((severity ≢ Error) × HasNone rest)
one_more Error rest = (λ h. absurd (omega (arith, counted_cons Error rest, h)), λ h. absurd (h.0 refl))
one_more Warning rest = (λ h. (λ same. cc same, omega (arith, counted_cons Warning rest, h)), λ h. omega (arith, counted_cons Warning rest, h.1))
one_more Note rest = (λ h. (λ same. cc same, omega (arith, counted_cons Note rest, h)), λ h. omega (arith, counted_cons Note rest, h.1))

both_none : (xs ys : List FindingSeverity) → HasNone (xs ++ ys) ↔ (HasNone xs × HasNone ys)
both_none xs ys =
    let sum = sum_by-append (λ one. cond (is_error one) 1 0) xs ys in
    (λ h. (omega (arith, sum, h), omega (arith, sum, h)), λ h. omega (arith, sum, h.0, h.1))

none_located : (located : List LocatedFinding) → HasNone (map severity_of located) ↔ AllByRecursion IsNoLocatedError located
none_located [] = (λ h. tt, λ h. refl)
none_located (one ∷ located) =
    iff.trans (one_more (severity_of one) (map severity_of located))
    (iff.and (λ h. h, λ h. h) (none_located located))

-- ---- files

-- where no code is allowed, each finding is reported
pub all_reported : (edition : Edition) (tells_refusals : Bool) (located : List LocatedFinding) → filter (tells (judging edition [] tells_refusals)) located ≡ located
all_reported edition tells_refusals [] = refl
all_reported edition tells_refusals (one ∷ located) = ap (λ rest. one ∷ rest) (all_reported edition tells_refusals located)

file_passes : (edition : Edition) (list : List ListFile) (position : ℕ) (file : File) (found : FileFound) → IsFoundIn (judging edition [] false) list position file found
    → HasNone (severities_in found) ↔ HasNoError edition file
file_passes edition list position file found is =
    rw (is.located, all_reported edition false is.all)
    (iff.trans (none_located is.all) (no_error_in_file edition file.place.kind list position file.contents is.all is.are_located))

files_pass : (edition : Edition) (list : List ListFile) (position : ℕ) (files : List File) (found : List FileFound) → AllZipFrom (IsFoundIn (judging edition [] false) list) position files found
    → HasNone (severities_of found) ↔ AllByRecursion (HasNoError edition) files
files_pass edition list position [] [] none = (λ h. tt, λ h. refl)
files_pass edition list position [] (one ∷ found) none = absurd none
files_pass edition list position (file ∷ files) [] none = absurd none
files_pass edition list position (file ∷ files) (one ∷ found) (here, rest) =
    rw (flat_map-cons severities_in one found)
    (iff.trans (both_none (severities_in one) (severities_of found))
    (iff.and (file_passes edition list position file one here) (files_pass edition list (suc position) files found rest)))

-- and so do files after those of tools
after_pass : (edition : Edition) (read : FilesRead) (files : List File) (found : List FileFound) → AllZip (IsFoundAfter (judging edition [] false) read) files found
    → HasNone (severities_of found) ↔ AllByRecursion (HasNoError edition) files
after_pass edition read [] [] none = (λ h. tt, λ h. refl)
after_pass edition read [] (one ∷ found) none = absurd none
after_pass edition read (file ∷ files) [] none = absurd none
after_pass edition read (file ∷ files) (one ∷ found) ((list, listed, is), rest) =
    rw (flat_map-cons severities_in one found)
    (iff.trans (both_none (severities_in one) (severities_of found))
    (iff.and (file_passes edition (as_list read list) (length read.tools) file one is) (after_pass edition read files found rest)))

-- both lists are so exactly where all of it is
all_of_both : {A : Type 0} (P : A → Type 0) (xs ys : List A) → (AllByRecursion P xs × AllByRecursion P ys) ↔ AllByRecursion P (xs ++ ys)
all_of_both P xs ys = (λ h. all_joined P xs ys h.0 h.1, λ h. (all_left P xs ys h, all_right P xs ys h))

-- ---- the status

passes_by : (is_some : Bool) (n : ℕ) → nat_lt 0 n ≡ is_some → (exit_code (failure_if (is_some || false)) ≡ 0) ↔ (n ≡ 0)
passes_by true n some = (λ h. cc h, λ h. absurd (grind (arith, nat_tests, some, h)))
passes_by false n some = (λ h. grind (arith, nat_tests, some), λ h. refl)

-- no error is counted exactly where no file has one
pub counts_none : (edition : Edition) (files : FilesRead) (found : List FileFound) → AreFound (judging edition [] false) files found
    → HasNone (severities_of found) ↔ AllByRecursion (HasNoError edition) (all_files files)
counts_none edition files found are =
    let of_tools = files_pass edition (as_list files are.in_tools.0) 0 files.tools are.of_tools are.in_tools.2 in
    let of_repository = after_pass edition files files.repository are.of_repository are.in_repository in
    rw (are.whole, flat_map-append severities_in are.of_tools are.of_repository)
    (iff.trans (both_none (severities_of are.of_tools) (severities_of are.of_repository))
    (iff.trans (iff.and of_tools of_repository) (all_of_both (HasNoError edition) files.tools files.repository)))

whole_passes : (is_partial : Bool) (status : ExitStatus) {P : Type 0} → (exit_code status ≡ 0) ↔ P
    → (exit_code (if is_partial then NoOutcome else status) ≡ 0) ↔ ((is_partial ≡ false) × P)
whole_passes false status is = (λ h. (refl, is.0 h), λ h. is.1 h.1)
whole_passes true status is = (λ h. cc h, λ h. cc h.0)

pub lint_passes : (edition : Edition) (options : LintOptions) (files : FilesRead) (answer : AnswerView) → options.strict ≡ false → options.allowed.items ≡ []
    → IsLinted edition options files answer → (exit_code answer.status ≡ 0) ↔ ((files.is_partial ≡ false) × AllByRecursion (HasNoError edition) (all_files files))
lint_passes edition options files answer lax none linted =
    let found = rw none at linted.are_found in
    rw (linted.is, lax)
    (whole_passes files.is_partial _
    (iff.trans (passes_by _ (counted (severities_of linted.found)) refl) (counts_none edition files linted.found found)))

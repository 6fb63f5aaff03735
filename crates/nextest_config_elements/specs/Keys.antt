-- The keys of nextest's configuration file: what the value of each has to be, and what stands in
-- that. What a user writes in a file stands here by itself, and the code's table is proved to be
-- this one.
use Rattle.std.specs.Prelude.{ℕ, pos, true, false, List, [], ◌∷◌, codes, Some, None}
use Rattle.toml.specs.Data.{array, boolean, integer, no_items}
use Rattle.nextest_config_elements.specs.Fields.{allowed, allowed_or, default_text, elements, elements_or_fields, features, field, Fields, fields, inherited, inherited_text, names, needed, no_fields, nothing, of_profile, Parts, plain, taken, versions}
use Rattle.nextest_config_elements.specs.Junit.{junit_fields}
use Rattle.nextest_config_elements.specs.LeakTimeout.{leak_timeout_fields}
use Rattle.nextest_config_elements.specs.MaxFail.{fail_fast_fields}
use Rattle.nextest_config_elements.specs.RetryPolicy.{retries_parts}
use Rattle.nextest_config_elements.specs.SlowTimeout.{slow_timeout_fields}
use Rattle.nextest_config_elements.specs.declared.field.FaultSeverity.TheVariants.{Error, ErrorUnlessConverted, Warning}
use Rattle.nextest_config_elements.specs.declared.field.Referent.{Referent}
use Rattle.nextest_config_elements.specs.declared.field.Referent.TheVariants.{Definition, Parent}
use Rattle.nextest_config_elements.specs.declared.field.Shape.{Shape}
use Rattle.nextest_config_elements.specs.declared.field.Shape.TheVariants.{Any, Array, Boolean, Command, CommandLine, DefaultFilter, Depth, Duration, Experimental, FailFast, Filter, FlakyFailStatus, FlakyResult, LeakTimeout, NextestVersion, Platform, PlatformText, Priority, Reference, References, RelativePath, Retries, RuledTable, Scalar, SlowTimeout, Table, Text, Texts, Threads, ThreadsRequired, VersionText, Word}
use Rattle.nextest_config_elements.specs.declared.field.TableRule.TheVariants as rules
use Rattle.nextest_config_elements.specs.declared.named.NamedKind.{NamedKind}
use Rattle.nextest_config_elements.specs.declared.named.NamedKind.TheVariants.{Group, Script}
use Rattle.nextest_config_elements.specs.declared.named.ScriptKind.TheVariants.{Setup, Wrapper}
use Rattle.nextest_config_elements.specs.declared.word_list.WordList.TheVariants.{ArchiveOnMissing, ArchiveRelativeTo, FinalStatusLevel, StatusLevel, TargetRunner, TestOutputDisplay}

-- keys that are known, and of whose values nothing is said
abbrev pub unread : List (List ℕ) → Fields
unread [] = no_fields
unread (key ∷ keys) = plain (allowed key Any Warning) (unread keys)

-- a table that defines what it stands for by its name
abbrev pub definition : NamedKind → Shape
definition kind = RuledTable (rules.Definition kind)

-- a setup script's name, and a wrapper script's
abbrev pub setup_script : Referent
setup_script = Definition (Script Setup)

abbrev pub wrapper_script : Referent
wrapper_script = Definition (Script Wrapper)

-- the fields of the table `bench` of a profile
abbrev pub bench_fields : Fields
bench_fields =
    field (allowed_or (codes "slow-timeout") SlowTimeout Error (inherited_text (codes "30y")))
    (fields slow_timeout_fields)
    (plain (allowed_or (codes "global-timeout") Duration Error (inherited_text (codes "30y")))
    no_fields)

-- the fields of the table `junit` of an override
abbrev pub override_junit_fields : Fields
override_junit_fields =
    plain (allowed_or (codes "store-success-output") Boolean ErrorUnlessConverted of_profile)
    (plain (allowed_or (codes "store-failure-output") Boolean ErrorUnlessConverted of_profile)
    (plain (allowed_or (codes "flaky-fail-status") FlakyFailStatus Error of_profile)
    (unread (codes "path" ∷ codes "report-name" ∷ codes "report-skipped" ∷ []))))

-- the fields of the table `platform` of an override, or of a rule for scripts
abbrev pub platform_fields : Fields
platform_fields =
    plain (allowed (codes "host") PlatformText Warning)
    (plain (allowed (codes "target") PlatformText Warning) no_fields)

-- what stands in an array of texts
abbrev pub each_text : Parts
each_text = elements Text nothing

-- the fields of an override
abbrev pub override_fields : Fields
override_fields =
    plain (allowed_or (codes "priority") Priority ErrorUnlessConverted
    (taken (Some (integer (pos 0)))))
    (plain (allowed_or (codes "threads-required") ThreadsRequired Error of_profile)
    (field (allowed_or (codes "retries") Retries Error of_profile) retries_parts
    (plain (allowed_or (codes "flaky-result") FlakyResult Error of_profile)
    (field (allowed_or (codes "slow-timeout") SlowTimeout Error of_profile)
    (fields slow_timeout_fields)
    (field (allowed_or (codes "leak-timeout") LeakTimeout Error of_profile)
    (fields leak_timeout_fields)
    (field (allowed_or (codes "junit") Table Error of_profile) (fields override_junit_fields)
    (plain (allowed (codes "filter") Filter Warning)
    (field (allowed (codes "platform") Platform Warning) (fields platform_fields)
    (plain (allowed_or (codes "default-filter") DefaultFilter Warning of_profile)
    (plain (allowed_or (codes "test-group") (Reference (Definition Group)) Warning
    (default_text (codes "@global")))
    (field (allowed_or (codes "run-extra-args") Texts Warning of_profile) each_text
    (plain (allowed_or (codes "success-output") (Word TestOutputDisplay) Warning of_profile)
    (plain (allowed_or (codes "failure-output") (Word TestOutputDisplay) Warning of_profile)
    (unread (codes "bench" ∷ [])))))))))))))))

-- the fields of a rule that says for which tests scripts run
abbrev pub script_rule_fields : Fields
script_rule_fields =
    plain (allowed (codes "filter") Filter Warning)
    (field (allowed (codes "platform") Platform Warning) (fields platform_fields)
    (field (allowed_or (codes "setup") (References setup_script) Warning
    (taken (Some (array no_items)))) (elements (Reference setup_script) nothing)
    (plain (allowed (codes "list-wrapper") (Reference wrapper_script) Warning)
    (plain (allowed (codes "run-wrapper") (Reference wrapper_script) Warning)
    no_fields))))

-- the fields of what names files that an archive has, too
abbrev pub archive_include_fields : Fields
archive_include_fields =
    plain (needed (codes "path") RelativePath Warning)
    (plain (needed (codes "relative-to") (Word ArchiveRelativeTo) Warning)
    (plain (allowed_or (codes "depth") Depth Warning (taken (Some (integer (pos 16)))))
    (plain (allowed_or (codes "on-missing") (Word ArchiveOnMissing) Warning
    (default_text (codes "warn"))) no_fields)))

-- the fields of the table `archive` of a profile
abbrev pub archive_fields : Fields
archive_fields =
    field (allowed_or (codes "include") Array Warning (taken (Some (array no_items))))
    (elements Table (fields archive_include_fields))
    no_fields

-- the fields of a profile
abbrev pub profile_fields : Fields
profile_fields =
    field (allowed_or (codes "retries") Retries Error (inherited (Some (integer (pos 0)))))
    retries_parts
    (plain (allowed_or (codes "flaky-result") FlakyResult Error (inherited_text (codes "pass")))
    (plain (allowed_or (codes "threads-required") ThreadsRequired Error
    (inherited (Some (integer (pos 1)))))
    (field (allowed_or (codes "fail-fast") FailFast Error (inherited (Some (boolean true))))
    (fields fail_fast_fields)
    (field (allowed_or (codes "slow-timeout") SlowTimeout Error (inherited_text (codes "60s")))
    (fields slow_timeout_fields)
    (field (allowed_or (codes "leak-timeout") LeakTimeout Error (inherited_text (codes "200ms")))
    (fields leak_timeout_fields)
    (plain (allowed_or (codes "global-timeout") Duration Error (inherited_text (codes "30y")))
    (field (allowed_or (codes "junit") Table Error (inherited None)) (fields junit_fields)
    (field (allowed_or (codes "bench") Table Error (inherited None)) (fields bench_fields)
    (field (allowed_or (codes "overrides") Array Error (inherited None))
    (elements (RuledTable rules.Override) (fields override_fields))
    (plain (allowed_or (codes "inherits") (Reference Parent) Warning
    (default_text (codes "default")))
    (plain (allowed_or (codes "default-filter") DefaultFilter Warning
    (inherited_text (codes "all()")))
    (plain (allowed_or (codes "test-threads") Threads Warning (inherited_text (codes "num-cpus")))
    (field (allowed_or (codes "run-extra-args") Texts Warning (inherited (Some (array no_items))))
    each_text
    (plain (allowed_or (codes "status-level") (Word StatusLevel) Warning
    (inherited_text (codes "pass")))
    (plain (allowed_or (codes "final-status-level") (Word FinalStatusLevel) Warning
    (inherited_text (codes "flaky")))
    (plain (allowed_or (codes "success-output") (Word TestOutputDisplay) Warning
    (inherited_text (codes "never")))
    (plain (allowed_or (codes "failure-output") (Word TestOutputDisplay) Warning
    (inherited_text (codes "immediate")))
    (field (allowed_or (codes "scripts") Array Warning (inherited None))
    (elements (RuledTable rules.ScriptRule) (fields script_rule_fields))
    (field (allowed_or (codes "archive") Table Warning (inherited None)) (fields archive_fields)
    no_fields)))))))))))))))))))

-- the fields of the table `store`
abbrev pub store_fields : Fields
store_fields =
    plain (allowed_or (codes "dir") Text Warning (default_text (codes "target/nextest"))) no_fields

-- the fields of a test group
abbrev pub group_fields : Fields
group_fields =
    plain (needed (codes "max-threads") Threads Warning) no_fields

-- the fields of the table `nextest-version`
abbrev pub version_fields : Fields
version_fields =
    plain (allowed (codes "required") VersionText Error)
    (plain (allowed (codes "recommended") VersionText Error) no_fields)

-- the fields of the table `experimental`
abbrev pub feature_fields : Fields
feature_fields =
    plain (allowed_or (codes "setup-scripts") Boolean Error (taken (Some (boolean false))))
    (plain (allowed_or (codes "wrapper-scripts") Boolean Error (taken (Some (boolean false))))
    (plain (allowed_or (codes "benchmarks") Boolean Error (taken (Some (boolean false))))
    no_fields))

-- the fields of the command of a script, as a table
abbrev pub command_fields : Fields
command_fields =
    field (needed (codes "command-line") CommandLine Warning) (elements Scalar nothing)
    (field (allowed (codes "env") Table Warning) (names Scalar nothing)
    (plain (allowed_or (codes "relative-to") Text Warning (default_text (codes "none"))) no_fields))

-- what stands in the command of a script
abbrev pub command_parts : Parts
command_parts = elements_or_fields Scalar command_fields

-- the fields of the table `junit` of a script
abbrev pub script_junit_fields : Fields
script_junit_fields =
    plain (allowed_or (codes "store-success-output") Boolean Warning (taken (Some (boolean true))))
    (plain (allowed_or (codes "store-failure-output") Boolean Warning (taken (Some (boolean true))))
    no_fields)

-- the fields of a script that sets up tests
abbrev pub setup_script_fields : Fields
setup_script_fields =
    field (needed (codes "command") Command Warning) command_parts
    (field (allowed (codes "slow-timeout") SlowTimeout Error) (fields slow_timeout_fields)
    (field (allowed (codes "leak-timeout") LeakTimeout Error) (fields leak_timeout_fields)
    (plain (allowed_or (codes "capture-stdout") Boolean Warning (taken (Some (boolean false))))
    (plain (allowed_or (codes "capture-stderr") Boolean Warning (taken (Some (boolean false))))
    (field (allowed (codes "junit") Table Warning) (fields script_junit_fields) no_fields)))))

-- scripts that set up tests, by their names
abbrev pub setup_scripts : Parts
setup_scripts = names (definition (Script Setup)) (fields setup_script_fields)

-- the fields of a script that wraps tests
abbrev pub wrapper_script_fields : Fields
wrapper_script_fields =
    field (needed (codes "command") Command Warning) command_parts
    (plain (allowed_or (codes "target-runner") (Word TargetRunner) Warning
    (default_text (codes "ignore"))) no_fields)

-- the fields of the table `scripts`
abbrev pub scripts_fields : Fields
scripts_fields =
    field (allowed (codes "setup") (RuledTable (rules.Scripts Setup)) Warning) setup_scripts
    (field (allowed (codes "wrapper") (RuledTable (rules.Scripts Wrapper)) Warning)
    (names (definition (Script Wrapper)) (fields wrapper_script_fields)) no_fields)

-- the fields of a file
abbrev pub file_fields : Fields
file_fields =
    field (allowed (codes "nextest-version") NextestVersion Error) (versions version_fields)
    (field (allowed (codes "experimental") Experimental Error) (features feature_fields)
    (field (allowed (codes "profile") Table Error)
    (names (RuledTable rules.Profile) (fields profile_fields))
    (field (allowed (codes "store") Table Warning) (fields store_fields)
    (field (allowed (codes "test-groups") Table Warning)
    (names (definition Group) (fields group_fields))
    (field (allowed (codes "scripts") Table Warning) (fields scripts_fields)
    (field (allowed (codes "script") (RuledTable (rules.Scripts Setup)) Warning) setup_scripts
    no_fields))))))

-- what stands in a file
abbrev pub file_table : Parts
file_table = fields file_fields

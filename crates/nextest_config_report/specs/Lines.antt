-- The lines of a report on a list that reads.
use Rattle.std.specs.Prelude.{ℕ, Bool, true, false, List, [], ◌∷◌, ◌++◌, map, flat_map, codes}
use Rattle.semver.specs.Identifiers.{parts_text}
use Rattle.semver.specs.Parse.{Parts}
use Rattle.nextest_config_values.specs.Read.{comma_list, quoted_texts}
use Rattle.nextest_config.specs.NextestVersion.ExperimentalConfig.{Experimental}
use Rattle.nextest_config.specs.NextestVersion.Verdict.{Verdict}
use Rattle.nextest_config.specs.NextestVersion.{SourcePlace, word_of, error, satisfied, Unknown, warn}
use Rattle.nextest_config_report.specs.Source.{source_text}
use Rattle.nextest_config_report.specs.declared.source.SourceStyle.{SourceStyle}
use Rattle.nextest_config.specs.declared.nextest_version.experimental.ConfigExperimental.{ConfigExperimental}

-- the word of a verdict, by whether it is overridden
abbrev pub verdict_word : List ℕ → Bool → List ℕ
verdict_word says true = says ++ codes " (overridden)"
verdict_word says false = says

-- how a shortfall prints: the version that a place asks in this role, and the current one
abbrev pub shortfall_text : SourceStyle → List ℕ → Parts → List ℕ → SourcePlace → Parts → List ℕ
shortfall_text style says asked role place current =
    says ++ (codes ": " ++ (parts_text asked
    ++ (codes " " ++ (role
    ++ (codes " by " ++ (source_text style place
    ++ (codes ", current " ++ parts_text current)))))))

-- how a verdict on the current version prints
abbrev pub verdict_text : SourceStyle → Parts → Verdict → List ℕ
verdict_text style current satisfied = codes "satisfied: " ++ parts_text current
verdict_text style current (warn s) = shortfall_text style
    (verdict_word (codes "warning") s.overridden) s.asked (codes "recommended") s.place s.current
verdict_text style current (error s) = shortfall_text style
    (verdict_word (codes "error") s.overridden) s.asked (codes "required") s.place s.current

-- the words of the known features, or that there is none
abbrev pub known_text : List ConfigExperimental → List ℕ
known_text [] = codes "none"
known_text (feature ∷ features) = comma_list (map word_of (feature ∷ features))

-- the line of a source that has unknown feature names
abbrev pub unknown_line : SourceStyle → Unknown → List ℕ
unknown_line style unknown =
    codes "unknown in " ++ (source_text style unknown.place
    ++ (codes ": " ++ (quoted_texts unknown.names ++ codes "\n")))

-- the line of a source that names its features in an array
abbrev pub array_line : SourceStyle → SourcePlace → List ℕ
array_line style place =
    codes "deprecated array form in " ++ (source_text style place ++ codes "\n")

-- the lines of the features: the known ones, the sources that have unknown feature names, and those
-- that name theirs in an array
abbrev pub features_text : SourceStyle → Experimental → List ℕ
features_text style experimental =
    codes "known: " ++ (known_text experimental.known
    ++ (codes "\n" ++ (flat_map (unknown_line style) experimental.unknown
    ++ flat_map (array_line style) experimental.arrays)))

-- the lines of a list that reads
abbrev pub read_text : SourceStyle → Parts → Verdict → Experimental → List ℕ
read_text style current v experimental = verdict_text style current v
    ++ (codes "\n" ++ features_text style experimental)

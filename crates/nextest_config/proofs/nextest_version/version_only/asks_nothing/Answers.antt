use Rattle.std.proofs.Common.{◌≡◌, ℕ, List, [], string_bytes, Some, refl, sym, subst, rules}
use Rattle.std.proofs.lemmas.List.{nil_from_length}
use Rattle.toml.specs.Data.{no_members}
use Rattle.toml.specs.Parse.{parse_document, lines, skip_bom}
use Rattle.toml_parser.specs.Lexical.{skip_from}
use Rattle.nextest_config.specs.NextestVersion.{nothing, TextAsks}
use Rattle.nextest_config.specs.declared.nextest_version.edition.Edition.{Edition}
use Rattle.nextest_config.specs.declared.nextest_version.edition.Edition.TheVariants.{ArrayAllowed, TableOnly}
use Rattle.nextest_config.specs.declared.nextest_version.source.ConfigSourceKind.{ConfigSourceKind}
use Rattle.nextest_config.specs.declared.nextest_version.source.ConfigSourceKind.TheVariants.{Tool, ExplicitRepository, DiscoveredRepository}
use Rattle.nextest_config.proofs.nextest_version.version_only.asks_nothing.Goals as goal

-- the document of no text has no member
empty_document : parse_document [] ≡ Some no_members
unfolding parse_document lines skip_bom skip_from
empty_document = refl

empty_asks : (edition : Edition) (kind : ConfigSourceKind) → TextAsks edition kind (Some []) nothing
empty_asks ArrayAllowed (Tool name) = (no_members, empty_document, record { of_versions = search rules; of_features = search rules; of_tool = refl })
empty_asks ArrayAllowed ExplicitRepository = (no_members, empty_document, record { of_versions = search rules; of_features = search rules; of_tool = tt })
empty_asks ArrayAllowed DiscoveredRepository = (no_members, empty_document, record { of_versions = search rules; of_features = search rules; of_tool = tt })
empty_asks TableOnly (Tool name) = (no_members, empty_document, record { of_versions = search rules; of_features = search rules; of_tool = refl })
empty_asks TableOnly ExplicitRepository = (no_members, empty_document, record { of_versions = search rules; of_features = search rules; of_tool = tt })
empty_asks TableOnly DiscoveredRepository = (no_members, empty_document, record { of_versions = search rules; of_features = search rules; of_tool = tt })

pub returns-in-Some : goal.returns-in-Some
returns-in-Some c empty edition kind =
    let none : string_bytes c.in-Some.text ≡ [] = nil_from_length (string_bytes c.in-Some.text) (search rules) in
    rw c.in-Some.is (subst (λ (bytes : List ℕ). TextAsks edition kind (Some bytes) nothing) (sym none) (empty_asks edition kind))

use Rattle.std.proofs.Common.{map, refl, string_bytes, string_cmp, subst}
use Rattle.std.proofs.lemmas.Map.Lookups.{exact_bytes}
use Rattle.nextest_config.specs.NextestVersion.{HasOneMore}
use Rattle.nextest_config.proofs.Members.{seen_in_order}
use Rattle.nextest_config.specs.NextestVersion.SetLaws.{one_more_seen}
use Rattle.nextest_config.proofs.nextest_version.experimental_deserialize.add_text.Goals as goal

pub returns-clause-added : goal.returns-clause-added
returns-clause-added c =
    subst (λ text. HasOneMore (map string_bytes c.args.texts.now.keys) text (map string_bytes c.insert.new.self.keys)) c.in_ok-text.ensures.ok
    (one_more_seen string_cmp string_bytes (λ x y e. exact_bytes (string_bytes x) (string_bytes y) e) c.in_ok-text.text c.args.texts.now.keys c.insert.new.self.keys c.in_ok-insert.ensures.keys)

pub returns-clause-in_order : goal.returns-clause-in_order
returns-clause-in_order c = seen_in_order string_cmp _ string_bytes (λ x y. refl) c.insert.new.self.keys c.insert.ensures.ordered

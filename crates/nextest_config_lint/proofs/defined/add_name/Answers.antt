use Rattle.std.proofs.Common.{map, refl, string_bytes, string_cmp, subst}
use Rattle.std.proofs.lemmas.Map.Lookups.{exact_bytes}
use Rattle.nextest_config.specs.NextestVersion.{HasOneMore}
use Rattle.nextest_config.proofs.Members.{seen_in_order}
use Rattle.nextest_config.specs.NextestVersion.SetLaws.{one_more_seen}
use Rattle.nextest_config_lint.proofs.defined.add_name.Goals as goal

pub returns : goal.returns
returns c = record {
  in_order = λ _. seen_in_order string_cmp _ string_bytes (λ x y. refl) c.insert.new.self.keys c.insert.ensures.ordered;
  each = subst (λ text. HasOneMore (map string_bytes c.args.names.now.keys) text (map string_bytes c.insert.new.self.keys)) c.in_ok-name.ensures.ok
      (one_more_seen string_cmp string_bytes (λ x y e. exact_bytes (string_bytes x) (string_bytes y) e) c.in_ok-name.name c.args.names.now.keys c.insert.new.self.keys c.in_ok-insert.ensures.keys);
}

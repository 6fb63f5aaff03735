use Rattle.std.proofs.Common.{refl, string_bytes, string_cmp}
use mathlib.Core.Logic.{⊎_map}
use Rattle.nextest_config.proofs.Members.{seen_in_order}
use Rattle.nextest_config_lint.proofs.NameSets.{of_both, some_name}
use Rattle.nextest_config_lint.proofs.defined.add_keys.Goals as goal

pub returns : goal.returns
returns c = record {
  in_order = λ _. seen_in_order string_cmp _ string_bytes (λ x y. refl) c.append.new.self.keys c.append.ensures.ordered;
  each = λ name. let both = of_both c.args.names.now.keys c.in_ok-keys.keys.keys c.append.new.self.keys c.in_ok-append.ensures.inserts_all.0 name in
      let of_table = c.in_ok-keys.ensures name in
      let some = some_name _ name in (
        λ there. ⊎_map (λ h. h) (λ h. some.1 (of_table.0 h)) (both.0 there),
        λ holds. both.1 (⊎_map (λ h. h) (λ h. of_table.1 (some.0 h)) holds),
      );
}

-- The laws of the join of features.
use Rattle.std.specs.Prelude.{◌≡◌, Bool, true, false, ◌||◌}
use Rattle.std.proofs.Common.{refl, append_assoc}
use Rattle.std.proofs.Math.Bool.{or_assoc}
use Rattle.std.proofs.lemmas.List.{append-nil}
use Rattle.nextest_config.specs.Merge.{IsMonoid}
use Rattle.nextest_config.specs.NextestVersion.ExperimentalConfig.{join_features, no_features_seen}

or_false : (enabled : Bool) → (enabled || false) ≡ enabled
or_false true = refl
or_false false = refl

pub features_join : IsMonoid join_features no_features_seen
features_join = record {
  associative = λ a b c i.
      record {
        enables = λ feature. or_assoc (a.enables feature) (b.enables feature)
            (c.enables feature) i;
        unknown = append_assoc a.unknown b.unknown c.unknown i;
        arrays =
            append_assoc a.arrays b.arrays c.arrays i;
      };
  neutral_first = λ features. refl;
  neutral_last = λ features i. record {
    enables = λ feature. or_false (features.enables feature) i;
    unknown = append-nil features.unknown i;
    arrays = append-nil features.arrays i;
  };
}

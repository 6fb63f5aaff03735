-- The first and the last number of leaves in a row.
use Rattle.std.proofs.Common.{◌≡◌, refl}
use Rattle.nextest_config.specs.Merge.{IsMonoid}
use Rattle.nextest_config_vectors.specs.declared.lists.tree.Ends.{Ends}
use Rattle.nextest_config_vectors.specs.declared.lists.tree.Ends.TheVariants.{Nothing, Between}

-- the first of the earlier leaves and the last of the later ones
abbrev pub join_ends : Ends → Ends → Ends
join_ends Nothing later = later
join_ends (Between first last) Nothing = Between first last
join_ends (Between first last) (Between from to) = Between first to

none_last : (ends : Ends) → join_ends ends Nothing ≡ ends
none_last Nothing = refl
none_last (Between first last) = refl

in_a_row : (a b c : Ends) → join_ends (join_ends a b) c ≡ join_ends a (join_ends b c)
in_a_row Nothing b c = refl
in_a_row (Between first last) Nothing c = refl
in_a_row (Between first last) (Between from to) Nothing = refl
in_a_row (Between first last) (Between from to) (Between more end) = refl

pub ends_join : IsMonoid join_ends Nothing
ends_join = record {
  associative = in_a_row;
  neutral_first = λ ends. refl;
  neutral_last = none_last;
}

-- The members of a table without the one of a name.
use Rattle.std.proofs.Common.{◌≡◌, ℕ, List, [], ◌∷◌, Ordering, Equal, ap, cond, is_eq, refl, string_bytes}
use Rattle.std.specs.BTreeMap.{is_at}
use Rattle.std.specs.Cmp.Lexicographic.{slice_cmp}
use Rattle.std.specs.Map.{remove_entry}
use Rattle.std.specs.Ordering.{match_ordering, nat_cmp}
use Rattle.toml.proofs.Views.{Entry}
use Rattle.toml.specs.Data.{member, Members}
use Rattle.toml.specs.View.{members_view, view}
use Rattle.nextest_config_profiles.specs.Report.Converted.{without}

by_order : (o : Ordering) (e : Entry) (rest left : List Entry) (ms : Members) → members_view left ≡ ms
    → members_view (cond (is_eq o) rest (e ∷ left))
    ≡ match_ordering o (member (string_bytes e.0) (view e.1) ms) (members_view rest) (member (string_bytes e.0) (view e.1) ms)
by_order Equal e rest left ms same = refl
by_order order e rest left ms same = ap (member (string_bytes e.0) (view e.1)) same

pub removed : (k : List ℕ) (es : List Entry)
    → members_view (remove_entry (is_at (λ x. slice_cmp nat_cmp k (string_bytes x))) es) ≡ without k (members_view es)
removed k [] = refl
removed k (e ∷ es) =
    by_order (slice_cmp nat_cmp k (string_bytes e.0)) e es (remove_entry (is_at (λ x. slice_cmp nat_cmp k (string_bytes x))) es) (without k (members_view es)) (removed k es)

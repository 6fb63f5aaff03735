use Rattle.std.proofs.Common.{[], refl, subst}
use Rattle.nextest_config_profiles.specs.Reach.{words_of}
use Rattle.nextest_config_profiles.specs.Report.Rows.{IsPlaceOf}
use Rattle.nextest_config_profiles.proofs.Somes.{one_more}
use Rattle.nextest_config_profiles.proofs.report.faulty.whole_place.Goals as goal

pub returns : goal.returns
returns c =
    let here = subst (λ path. IsPlaceOf c.args.effective.now c.args.profile.now path c.in_ok-place.place) c.in_ok-keys.ensures c.in_ok-place.ensures in
    rw (c.in_ok-push_some.ensures, c.new-sources.ensures.items)
    (one_more (IsPlaceOf c.args.effective.now c.args.profile.now) [] (words_of c.args.keys.now) [] c.in_ok-place.place (record { each = []; are_each = tt; whole = refl }) here)

use Rattle.std.proofs.Common.{◌≡◌, ◌∷◌, ◌+◌, false, arith}
use Rattle.std.specs.Str.{chars}
use Rattle.nextest_config_filters.specs.Front.{bytes_of, opening}
use Rattle.nextest_config_filters.proofs.Platforms.Rests.{opening_bytes}
use Rattle.nextest_config_filters.proofs.platform.walk.first_level.Goals as goal

pub returns : goal.returns
returns c =
    let opened = chars c.args.opened.now in
    let from_opening : c.size-behind.result + 1 ≡ bytes_of (opening ∷ opened) = omega (arith, c.size-behind.ensures, opening_bytes opened) in
    λ i. record {
      is_not = false;
      from = c.size.ensures i;
      opening = from_opening i;
      opened = c.size-behind.ensures i;
      members = 0;
    }

use Rattle.std.specs.Str.{chars}
use Rattle.nextest_config_filters.specs.Platform.Member.{behind_token}
use Rattle.nextest_config_filters.proofs.Fronts.{rest_behind}
use Rattle.nextest_config_filters.proofs.Platforms.Rests.{token_rest}
use Rattle.nextest_config_filters.proofs.platform.member.unexpected.Goals as goal

pub fault_up_to-requires : goal.fault_up_to-requires
fault_up_to-requires c =
    let rest = chars c.in-Some.rest.now in
    rw (c.in-Some.ensures, c.behind_token.ensures)
    (rest_behind c.in-Some.c rest (behind_token c.in-Some.c rest) (token_rest c.in-Some.c rest))

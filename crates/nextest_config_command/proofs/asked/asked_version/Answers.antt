use Rattle.nextest_config.specs.NextestVersion.{place_of}
use Rattle.nextest_config_command.specs.Asked.{asked_of, AsksAt, IsAskedBy, NoneAsks}
use Rattle.nextest_config_command.proofs.AskedVersions.{any_left, any_right, none_of_either}
use Rattle.nextest_config_command.proofs.asked.asked_version.Goals as goal

pub returns-in-Some : goal.returns-in-Some
returns-in-Some c = any_right (IsAskedBy c.args.role (place_of c.args.source.now) (asked_of c.in-Some.asked)) _ _ (rw (c.as_slice.ensures.value, c.in-Some.is) at c.in_ok-asked.ensures)

pub returns : goal.returns
returns c = any_left (IsAskedBy c.args.role (place_of c.args.source.now) (asked_of c.in-Some-2.asked)) _ _ (rw (c.as_slice-2.ensures.value, c.in-Some-2.is) at c.in_ok-asked-2.ensures)

pub unreachable-requires : goal.unreachable-requires
unreachable-requires c =
    let role = c.args.role in
    let place = place_of c.args.source.now in
    let tools : NoneAsks c.args.files.now.tools.items role place = rw (c.as_slice-2.ensures.value, c.in-None.is) at c.in_ok-asked-2.ensures in
    let repository : NoneAsks c.args.files.now.repository.items role place = rw (c.as_slice.ensures.value, c.in_default.is) at c.in_ok-asked.ensures in
    none_of_either (AsksAt role place) _ _ tools repository c.requires

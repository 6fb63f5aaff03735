use Rattle.std.proofs.Common.{string_bytes, refl}
use Rattle.std.specs.List.{each_same}
use Rattle.nextest_config.proofs.Lists.{zip_same_images}
use Rattle.nextest_config.proofs.nextest_version.experimental_deserialize.ExperimentalDeserialize.clone.Goals as goal

pub returns : goal.returns
returns c =
    let known = each_same c.args.self.now.known.keys c.in_ok-known.known.keys c.in_ok-known.ensures.cases in
    let unknown = zip_same_images string_bytes c.args.self.now.unknown.keys c.in_ok-unknown.unknown.keys c.in_ok-unknown.ensures.cases in
    rw (known, unknown) refl

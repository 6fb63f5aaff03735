use Rattle.std.proofs.Common.{ltb, of_calls, rules}
use Rattle.std.proofs.lemmas.Fn.{always_returns_same}
use Rattle.std.proofs.lemmas.List.Sorted.{IsPartitionedBy-ltb}
use Rattle.toml_spans.proofs.Places.{point_counts}
use Rattle.toml_spans.proofs.place.count_before.Goals as goal

pub returns : goal.returns
returns c =
    let parted = IsPartitionedBy-ltb (λ it. it) c.args.offsets.now c.args.offset c.requires in
    let point = c.partition_point.ensures.partitioned (λ it. ltb it c.args.offset) (search (rules, of_calls, always_returns_same)) parted in
    point_counts (λ it. ltb it c.args.offset) c.args.offsets.now _ c.partition_point.ensures.bound point

use Rattle.std.proofs.Common.{nat_le, rules}
use Rattle.std.proofs.lemmas.List.Sorted.{IsPartitionPoint-from_clause}
use Rattle.msc_scenario_marks.proofs.Rising.{found_line}
use Rattle.msc_scenario_marks.proofs.places.line_in.Goals as goal

pub returns : goal.returns
returns c =
    let starts = c.args.starts.now in
    let point = IsPartitionPoint-from_clause (λ start. nat_le start c.args.at) starts c.partition_point.result c.partition_point.ensures.partitioned c.requires (λ a r f called. search rules) in
    found_line starts c.args.at c.partition_point.result c.partition_point.ensures.bound point

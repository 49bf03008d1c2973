use Rattle.std.proofs.Common.{nat_le}
use Rattle.std.specs.List.Sorted.{IsPartitionedBy}
use Rattle.msc_scenario_marks.proofs.Rising.{starts_parted}
use Rattle.msc_scenario_marks.proofs.places.position_in.Goals as goal

pub line_in-line-requires : goal.line_in-line-requires
line_in-line-requires c =
    let parted : IsPartitionedBy (λ start. nat_le start c.args.at) c.args.starts.now = rw c.requires (starts_parted c.args.text.now c.args.at) in
    parted

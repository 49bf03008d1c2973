use Rattle.std.proofs.Common.{◌≡◌, take}
use Rattle.std.specs.List.{flat_map}
use Rattle.msc_picture.specs.Laws.{row_events}
use Rattle.msc_svg.proofs.depth.events_of_rows.Given as goal

abbrev pub invariant-loop-row : goal.invariant-loop-row
invariant-loop-row l =
    l.order.items ≡ flat_map row_events (take l.row-index l.rows)

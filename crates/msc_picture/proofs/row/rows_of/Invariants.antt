use Rattle.std.proofs.Common.{◌≡◌, ◌++◌, length, drop}
use Rattle.msc_picture.specs.Rows.{rows_after, rows_of, AreKnownRows, IsNoneOrBelow}
use Rattle.msc_picture.proofs.row.rows_of.Given as goal

abbrev pub invariant-loop-e : goal.invariant-loop-e
invariant-loop-e l =
    record {
      rest : l.rows.items ++ rows_after l.chart.events l.left (drop l.e-index l.order)
          ≡ rows_of l.chart.events l.order;
      known : AreKnownRows (length l.chart.events) l.rows.items;
      left : IsNoneOrBelow (length l.chart.events) l.left;
    }

use Rattle.std.proofs.Common.{◌≡◌, ℕ, ◌<◌, drop, get_or, length, None}
use Rattle.std.specs.Prelude.{IsTrue}
use Rattle.msc_picture.specs.Rows.{begins_segment, reach_from, reach_of, row_passes, share_segment}
use Rattle.msc_picture.proofs.extent.reaches_of.Given as goal

-- with the rows that are left, the reaches come to those of all rows
abbrev pub invariant-loop-k : goal.invariant-loop-k
invariant-loop-k l = record {
  long : length l.reaches.items ≡ length l.chart.events;
  each : (e : ℕ) → e < length l.chart.events → IsTrue (begins_segment l.chart.events e)
      → reach_from (row_passes (share_segment l.chart.events e)) (get_or l.reaches.items e None) l.k
      (drop l.k l.rows)
      ≡ reach_of (row_passes (share_segment l.chart.events e)) l.rows;
}

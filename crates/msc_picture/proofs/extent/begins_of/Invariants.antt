use Rattle.std.proofs.Common.{◌≡◌, ℕ, ◌-◌, ◌<◌, get_or, length}
use Rattle.msc_picture.specs.Extents.{IsBeginOf}
use Rattle.msc_picture.proofs.extent.begins_of.Given as goal

-- the events so far have theirs, and the last of these is at hand
abbrev pub invariant-loop-e : goal.invariant-loop-e
invariant-loop-e l = record {
  long : length l.begins.items ≡ l.e;
  each : (x : ℕ) → x < l.e → IsBeginOf l.chart.events (get_or l.begins.items x 0) x;
  last : 0 < l.e → IsBeginOf l.chart.events l.begun (l.e - 1);
}

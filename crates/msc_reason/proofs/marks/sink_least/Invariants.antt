use Rattle.std.proofs.Common.{◌≡◌, length}
use Rattle.msc_reason.proofs.Marking.{AreSunk}
use Rattle.msc_reason.proofs.marks.sink_least.Given as goal

-- so far the last numbers have what they shall
abbrev pub invariant-loop-k : goal.invariant-loop-k
invariant-loop-k l = record {
  size : length l.least.items ≡ length l.fn.least.items;
  sunk : AreSunk l.fn.least.items l.least.items l.size l.k;
}

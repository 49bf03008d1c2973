use Rattle.std.proofs.Common.{◌≡◌, ◌++◌, take}
use Rattle.std.specs.List.{filter}
use Rattle.msc_reason.specs.Counting.{counting, is_alone}
use Rattle.msc_reason.specs.Marked.{cause_in, AreOfOneEvent}
use Rattle.msc_reason.specs.declared.left_out.LeftOut.{LeftOut}
use Rattle.msc_reason.proofs.selecting.push_alone.Given as goal

-- those of the races so far that no other one stands within stand behind the list
abbrev pub invariant-loop-race : goal.invariant-loop-race
invariant-loop-race l = (allowed : LeftOut) → AreOfOneEvent l.enforced allowed l.marks.last.items l.marks.least.items l.end l.races
    → l.list.items ≡ l.fn.list.items
    ++ filter (is_alone l.enforced.chart.events (counting l.enforced allowed (cause_in l.enforced))) (take l.race-index l.races)

use Rattle.std.proofs.Common.{◌≡◌, ℕ, ◌+◌, ◌++◌, length, take, List}
use Rattle.msc_draw.specs.Marking.{HoldsMarking}
use Rattle.msc_draw.proofs.marking.Marking.take.Given as goal

-- the tables are as long as they were, and the races so far are noted
abbrev pub invariant-loop-race : goal.invariant-loop-race
invariant-loop-race l = record {
  upper : length l.self.upper ≡ length l.chart.events;
  lower : length l.self.lower ≡ length l.chart.events;
  held : (told : List (ℕ × ℕ)) → HoldsMarking l.chart.events l.e told l.fn.self
      → HoldsMarking l.chart.events (l.e + 1) (told ++ take l.race-index l.races) l.self;
}

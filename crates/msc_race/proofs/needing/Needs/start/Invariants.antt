use Rattle.std.proofs.Common.{◌≡◌, length}
use Rattle.msc_race.specs.PastEvents.{IsToldTo}
use Rattle.msc_race.proofs.needing.Needs.start.Given as goal

abbrev pub invariant-loop-q : goal.invariant-loop-q
invariant-loop-q l = record {
  told : IsToldTo l.choice l.needs l.left l.q;
  count : length l.needs.spans.firsts.items ≡ l.q-end;
}

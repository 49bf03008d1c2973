use Rattle.std.proofs.Common.{◌≡◌, ℕ, ◌+◌, length}
use Rattle.msc_race.specs.Choices.{event_count}
use Rattle.msc_race.specs.Fronts.{AreFirst}
use Rattle.msc_race.proofs.lines.first_events.Given as goal

abbrev pub invariant-loop-k : goal.invariant-loop-k
invariant-loop-k l =
    (length l.firsts.items ≡ length l.choice.wiring.chart.now.instances)
    × ((start : ℕ) → start + l.k ≡ event_count l.choice → AreFirst l.choice.wiring.chart.now l.firsts.items start)

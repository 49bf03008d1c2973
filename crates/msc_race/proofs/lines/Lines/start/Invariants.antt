use Rattle.msc_race.specs.Fronts.{HoldsLinesTo}
use Rattle.msc_race.proofs.lines.Lines.start.Given as goal

abbrev pub invariant-loop-i : goal.invariant-loop-i
invariant-loop-i l = HoldsLinesTo l.choice.wiring.chart.now l.lines l.i

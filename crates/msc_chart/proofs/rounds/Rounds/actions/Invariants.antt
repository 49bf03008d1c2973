use Rattle.std.proofs.Common.{◌≡◌, map}
use Rattle.msc_chart.specs.Drawings.{label_of}
use Rattle.msc_chart.specs.Rounds.{locals_below}
use Rattle.msc_chart.proofs.rounds.Rounds.actions.Given as goal

abbrev pub invariant-loop-k : goal.invariant-loop-k
invariant-loop-k l = l.actions.items ≡ map (label_of l.self.chart.now) (locals_below 2 l.self.chart.now.events l.k)

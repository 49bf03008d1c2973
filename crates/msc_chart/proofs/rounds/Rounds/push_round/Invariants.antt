use Rattle.std.proofs.Common.{◌≡◌, ◌++◌, map, take}
use Rattle.msc_chart.specs.Rounds.{number_of}
use Rattle.msc_chart.proofs.rounds.Rounds.push_round.Given as goal

abbrev pub invariant-loop-e : goal.invariant-loop-e
invariant-loop-e l =
    l.order.items ≡ l.fn.order.items ++ map (λ e. number_of 2 l.self.chart.now.events e l.round) (take l.e-index l.events)

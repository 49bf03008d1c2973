use Rattle.std.proofs.Common.{arith}
use Rattle.msc_chart.proofs.RoundParts.{linear_in}
use Rattle.msc_chart.proofs.rounds.Rounds.push_round.Goals as goal

pub number-requires-clause-known : goal.number-requires-clause-known
number-requires-clause-known c =
    linear_in c.args.self.now.chart.now.events c.args.events.now c.requires.linear c.loop-e.e-index (omega arith)

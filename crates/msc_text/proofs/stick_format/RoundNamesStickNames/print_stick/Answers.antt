use Rattle.msc_chart.proofs.KindTests.{input_below}
use Rattle.msc_chart.specs.Rounds.{two_rounds}
use Rattle.msc_text.proofs.stick_format.RoundNamesStickNames.print_stick.Goals as goal

pub print_round_stick-requires-clause-first : goal.print_round_stick-requires-clause-first
print_round_stick-requires-clause-first c =
    input_below (two_rounds c.args.self.now.chart.now).events c.args.stick.pair.0 c.requires.first

pub print_round_stick-requires-clause-second : goal.print_round_stick-requires-clause-second
print_round_stick-requires-clause-second c =
    input_below (two_rounds c.args.self.now.chart.now).events c.args.stick.pair.1 c.requires.second

use Rattle.msc_chart.proofs.KindTests.{input_below}
use Rattle.msc_text.proofs.stick_format.OneRoundStickNames.print_stick.Goals as goal

pub print_stick-requires-clause-first : goal.print_stick-requires-clause-first
print_stick-requires-clause-first c = input_below c.args.self.now.chart.now.events c.args.stick.pair.0 c.requires.first

pub print_stick-requires-clause-second : goal.print_stick-requires-clause-second
print_stick-requires-clause-second c = input_below c.args.self.now.chart.now.events c.args.stick.pair.1 c.requires.second

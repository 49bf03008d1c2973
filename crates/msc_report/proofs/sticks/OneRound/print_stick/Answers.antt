use Rattle.msc_chart.proofs.KindTests.{input_below}
use Rattle.msc_report.proofs.sticks.OneRound.print_stick.Goals as goal

pub print_blocked_pair_lines-requires-clause-e_known : goal.print_blocked_pair_lines-requires-clause-e_known
print_blocked_pair_lines-requires-clause-e_known c = input_below c.args.self.now.chart.now.events c.args.e c.requires.e_input

pub print_blocked_pair_lines-requires-clause-f_known : goal.print_blocked_pair_lines-requires-clause-f_known
print_blocked_pair_lines-requires-clause-f_known c = input_below c.args.self.now.chart.now.events c.args.f c.requires.f_input

use Rattle.msc_report.proofs.RoundLemmas.{input_in}
use Rattle.msc_report.proofs.rounds.RoundNames.print_stick.Goals as goal

pub print_again-requires-clause-k_known : goal.print_again-requires-clause-k_known
print_again-requires-clause-k_known c = input_in c.args.self.now.chart.now c.args.k c.requires.k_input

pub print_again-requires-clause-l_known : goal.print_again-requires-clause-l_known
print_again-requires-clause-l_known c = input_in c.args.self.now.chart.now c.args.l c.requires.l_input

pub output-s-requires : goal.output-s-requires
output-s-requires c = input_in c.args.self.now.chart.now c.args.k c.requires.k_input

pub output-t-requires : goal.output-t-requires
output-t-requires c = input_in c.args.self.now.chart.now c.args.l c.requires.l_input

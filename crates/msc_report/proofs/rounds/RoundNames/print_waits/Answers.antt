use Rattle.msc_report.proofs.RoundLemmas.{input_in, input_once}
use Rattle.msc_report.proofs.rounds.RoundNames.print_waits.Goals as goal

pub once-requires : goal.once-requires
once-requires c = input_in c.args.self.now.chart.now c.args.k c.requires.k_input

pub once-requires-2 : goal.once-requires-2
once-requires-2 c = input_in c.args.self.now.chart.now c.args.l c.requires.l_input

pub print_waits-requires-clause-e_input : goal.print_waits-requires-clause-e_input
print_waits-requires-clause-e_input c =
    rw c.once.ensures.event (input_once c.args.self.now.chart.now c.facts.ensures.in_text_order c.args.k c.requires.k_input)

pub print_waits-requires-clause-f_input : goal.print_waits-requires-clause-f_input
print_waits-requires-clause-f_input c =
    rw c.once-2.ensures.event (input_once c.args.self.now.chart.now c.facts.ensures.in_text_order c.args.l c.requires.l_input)

use Rattle.std.proofs.Common.{sym}
use Rattle.std.proofs.lemmas.List.{append-nil}
use Rattle.msc_chart.proofs.KindTests.{input_below}
use Rattle.msc_report.proofs.sticks.OneRoundEventNames.print_blocked_pair.Goals as goal

pub returns-in-Count : goal.returns-in-Count
returns-in-Count c = rw c.in-Count.is (sym (append-nil c.args.page.now.bytes.items))

pub print_pair-requires-clause-e_known : goal.print_pair-requires-clause-e_known
print_pair-requires-clause-e_known c = input_below c.args.self.now.chart.now.events c.args.stick.0 c.requires.first

pub print_pair-requires-clause-f_known : goal.print_pair-requires-clause-f_known
print_pair-requires-clause-f_known c = input_below c.args.self.now.chart.now.events c.args.stick.1 c.requires.second

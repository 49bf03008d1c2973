use Rattle.std.proofs.Common.{sym}
use Rattle.std.proofs.lemmas.List.{append-nil}
use Rattle.msc_report.proofs.RoundLemmas.{input_in}
use Rattle.msc_report.proofs.rounds.RoundNamesEventNames.print_blocked_pair.Goals as goal

pub returns-in-Count : goal.returns-in-Count
returns-in-Count c = rw c.in-Count.is (sym (append-nil c.args.page.now.bytes.items))

pub once-e-requires : goal.once-e-requires
once-e-requires c = input_in c.args.self.now.chart.now c.args.stick.0 c.requires.first

pub once-f-requires : goal.once-f-requires
once-f-requires c = input_in c.args.self.now.chart.now c.args.stick.1 c.requires.second

use Rattle.msc_print.proofs.PrintLemmas.{prints_none}
use Rattle.msc_text.proofs.readying.print_left_count.Goals as goal

pub returns-in-Count : goal.returns-in-Count
returns-in-Count g c = rw (c.in-Plain.is, c.in-Count.is) (prints_none c.args.printer.now)

pub returns-in-Editor : goal.returns-in-Editor
returns-in-Editor g c = rw (c.in-Plain.is, c.in-Editor.is) (prints_none c.args.printer.now)

pub returns-in-Full : goal.returns-in-Full
returns-in-Full g c = rw c.in-Full.is (prints_none c.args.printer.now)

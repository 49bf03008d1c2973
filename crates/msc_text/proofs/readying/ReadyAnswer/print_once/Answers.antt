use Rattle.std.proofs.Common.{ℕ, List, Option, sym, subst}
use Rattle.std.specs.Option.{option_copied}
use Rattle.msc_print.specs.Prints.{Prints}
use Rattle.msc_print.proofs.PrintLemmas.{prints_then}
use Rattle.msc_ready.specs.Views.{blocked_pairs_of}
use Rattle.msc_text.specs.Readying.{head_in, told_sticks}
use Rattle.msc_text.specs.StickFormats.{once_texts}
use Rattle.msc_text.proofs.readying.ReadyAnswer.print_once.Goals as goal

pub returns-clause-printed : goal.returns-clause-printed
returns-clause-printed g c k is ahead may =
    let self = c.args.self.now in
    let r = self.one.now.blocked_pairs in
    let format = self.query.format in
    prints_then c.args.printer.now c.print_head.new.printer c.print_sticks.new.printer (head_in format r (option_copied self.query.only) k)
    (told_sticks (once_texts format r.chart) k.ahead k.runs self.query.show (blocked_pairs_of r))
    (c.print_head.ensures k ahead may)
    (subst (λ (l : List (Option (ℕ × ℕ))). Prints c.print_head.new.printer c.print_sticks.new.printer (told_sticks (once_texts format r.chart) l k.runs self.query.show (blocked_pairs_of r)))
    (sym ahead) (c.print_sticks.ensures.printed k.runs is.runs))

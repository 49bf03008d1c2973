use Rattle.std.proofs.Common.{sym, subst}
use Rattle.std.proofs.lemmas.Result.{IfOk-at_ok, IfOk-weaker}
use Rattle.msc_print.specs.Prints.{Prints}
use Rattle.msc_print.proofs.PrintLemmas.{prints_then}
use Rattle.msc_print.proofs.both.BothPrint.print.Goals as goal

pub returns-clause-printed : goal.returns-clause-printed
returns-clause-printed g c text (xs, ys, first, second, same) =
    subst (Prints c.args.printer.now c.print-second.new.printer) (sym same)
    (prints_then _ _ _ xs ys (c.print-first.ensures.printed xs first) (c.print-second.ensures.printed ys second))

pub returns-clause-answer : goal.returns-clause-answer
returns-clause-answer g c =
    IfOk-weaker c.pass_both.result _ _
    (λ passed h. (h.0, h.1, IfOk-at_ok (g.A.Print.is_answer c.args.self.now.first.now) h.2 c.print-first.ensures.answer, IfOk-at_ok (g.B.Print.is_answer c.args.self.now.second.now) h.3 c.print-second.ensures.answer, h.4))
    c.pass_both.ensures

use Rattle.std.proofs.Common.{ℕ, Bool, Option, ◌&&◌, nat_eq, ap, ap₂, ◌∙◌, sym, subst}
use Rattle.std.specs.Option.{option_copied}
use Rattle.msc_text.specs.Readied.{between_number, IsAgainText}
use Rattle.msc_text.specs.Readying.{is_none_of}
use Rattle.msc_text.proofs.Readied.{answer_begins, answer_prints, closing_prints, finishes_so}
use Rattle.msc_text.proofs.readying.ReadyAnswerPrint.print.Goals as goal

pub returns-in-Ok-print_rest-clause-printed : goal.returns-in-Ok-print_rest-clause-printed
returns-in-Ok-print_rest-clause-printed g c text is =
    let self = c.args.self.now in
    let found = c.in-Ok-print_rest.ensures in
    answer_prints c.args.printer.now c.print_once.new.printer c.print_rest.new.printer c.print_closing.new.printer self text is
    (c.print_once.ensures.printed is.known is.is is.ahead is.may)
    (c.print_rest.ensures.printed is.known is.behind is.is (subst (λ (m : ℕ). IsAgainText self.query.format self.names.chart.now (option_copied self.two) m is.behind)
    (sym (c.in-Ok.ensures.more is.known is.ahead)) is.again))
    (closing_prints c.print_rest.new.printer c.print_closing.new.printer self.query.format self.one.now.blocked_pairs (option_copied self.query.only) is.known
    (between_number self.names.chart.now (option_copied self.two)) _ c.requires.count found.between (sym is.may) (found.left is.known is.is) c.print_closing.ensures)

pub returns-in-Ok-print_rest-clause-answer : goal.returns-in-Ok-print_rest-clause-answer
returns-in-Ok-print_rest-clause-answer g c k is =
    let self = c.args.self.now in
    let found = c.in-Ok-print_rest.ensures in
    c.passes.ensures ∙ ap₂ (λ (a b : Bool). a && b)
    (ap₂ (λ (n : ℕ) (left : Option ℕ). nat_eq n 0 && is_none_of left) c.requires.count (found.left k is) ∙ finishes_so self.one.now.blocked_pairs (option_copied self.query.only) k)
    (ap is_none_of found.between)

pub returns-in-Err-print_rest-clause-printed : goal.returns-in-Err-print_rest-clause-printed
returns-in-Err-print_rest-clause-printed g c text is =
    let self = c.args.self.now in
    answer_prints c.args.printer.now c.print_once.new.printer c.print_rest.new.printer c.stop.new.self self text is
    (c.print_once.ensures.printed is.known is.is is.ahead is.may)
    (c.print_rest.ensures.printed is.known is.behind is.is (subst (λ (m : ℕ). IsAgainText self.query.format self.names.chart.now (option_copied self.two) m is.behind)
    (sym (c.in-Ok.ensures.more is.known is.ahead)) is.again))
    (c.stop.ensures _)

pub returns-in-Err-clause-printed : goal.returns-in-Err-clause-printed
returns-in-Err-clause-printed g c text is =
    let self = c.args.self.now in
    answer_begins c.args.printer.now c.print_once.new.printer c.stop-in-Err.new.self self text is
    (c.print_once.ensures.printed is.known is.is is.ahead is.may)
    (c.stop-in-Err.ensures _)

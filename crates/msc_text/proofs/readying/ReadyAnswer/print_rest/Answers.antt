use Rattle.std.proofs.Common.{sym, ◌∙◌}
use Rattle.std.specs.Option.{option_copied}
use Rattle.msc_text.specs.Readying.{left_text}
use Rattle.msc_text.proofs.Readied.{above_prints, last_prints}
use Rattle.msc_text.proofs.readying.ReadyAnswer.print_rest.Goals as goal

pub returns-then-left_comes_last-clause-printed : goal.returns-then-left_comes_last-clause-printed
returns-then-left_comes_last-clause-printed g c = λ k text is again.
    let self = c.args.self.now in
    last_prints c.args.printer.now c.print_again-between.new.printer c.print_left-left.new.printer self.query.format
    (left_text self.query.format self.one.now.blocked_pairs (option_copied self.query.only) k) text
    (sym c.left_comes_last.ensures ∙ c.if-left_comes_last.true) (c.print_again-between.ensures.printed text again) (c.print_left-left.ensures.printed k is)

pub returns-clause-printed : goal.returns-clause-printed
returns-clause-printed g c = λ k text is again.
    let self = c.args.self.now in
    above_prints c.args.printer.now c.print_left-left-2.new.printer c.print_again-between-2.new.printer self.query.format
    (left_text self.query.format self.one.now.blocked_pairs (option_copied self.query.only) k) text
    (sym c.left_comes_last.ensures ∙ c.if-left_comes_last.false) (c.print_left-left-2.ensures.printed k is) (c.print_again-between-2.ensures.printed text again)

use Rattle.std.proofs.Common.{ℕ, subst}
use Rattle.msc_print.specs.Prints.{Prints}
use Rattle.msc_ready.specs.Views.{blocked_pairs_of}
use Rattle.msc_report.specs.Counts.{ready_tally_line}
use Rattle.msc_text.specs.Readying.{first_in}
use Rattle.msc_text.proofs.readying.ReadyAnswer.print_plain_head.Goals as goal

pub returns-in-Ok : goal.returns-in-Ok
returns-in-Ok g c = λ k ahead may.
    let self = c.args.self.now in
    let sticks = blocked_pairs_of self.one.now.blocked_pairs in
    let file = c.in-Count.file.now in
    let print : ℕ → ℕ → Type 0 = λ count first. Prints c.args.printer.now c.print_text-in-Ok.new.self (ready_tally_line file count first) in
    rw (c.in-Count.is, ahead) (subst (λ (n : ℕ). print n (first_in self.one.now.ahead.items sticks)) c.requires.count
    (subst (print self.count) c.in-Ok.ensures c.print_text-in-Ok.ensures))

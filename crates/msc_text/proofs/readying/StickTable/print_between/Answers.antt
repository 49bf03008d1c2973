use Rattle.std.proofs.Common.{length, refl, sym, ap, ◌∙◌, subst}
use Rattle.msc_chart.specs.Drawings.{Drawing}
use Rattle.msc_ready.specs.Held.{ReadyChart}
use Rattle.msc_ready.specs.Rounds.{between_of}
use Rattle.msc_ready.specs.Views.{HasAhead}
use Rattle.msc_chart.specs.Rounds.{two_rounds}
use Rattle.msc_text.proofs.Readied.{between_printed, between_rows}
use Rattle.msc_text.proofs.readying.StickTable.print_between.Goals as goal

pub print_pairs-requires-clause-pairs : goal.print_pairs-requires-clause-pairs
print_pairs-requires-clause-pairs g c e inside =
    let r = c.args.self.now.blocked_pairs in
    between_printed r c.args.names.chart.now (two_rounds c.args.names.chart.now) c.as_slice.result.now e c.facts-2.ensures.blocked_pairs
    (subst (HasAhead r) (sym c.as_slice.ensures.value) c.requires.ahead) c.requires.two_rounds inside

pub returns-in_err-print_pairs-clause-printed : goal.returns-in_err-print_pairs-clause-printed
returns-in_err-print_pairs-clause-printed g c runs are =
    let d = c.args.names.chart.now in
    let r = c.args.self.now.blocked_pairs in
    let number = c.count-count.ensures.number ∙ ap (λ (x : ReadyChart). length (between_of x c.rounds.result.numbers.now)) c.rounds.ensures.blocked_pairs ∙ ap (λ (x : Drawing). length (between_of r x)) c.rounds.ensures.numbers in
    between_rows c.print_again_count.new.printer c.print_pairs.new.printer c.args.format r c.as_slice.result.now c.args.self.now.ahead.items c.as_slice.ensures.value runs c.args.show
    c.args.printer.now d c.count-count.result number c.print_again_count.ensures (c.print_pairs.ensures.printed (λ p. runs p.1) (record { each = runs; are = are; same = λ p. refl }))

pub returns-clause-printed : goal.returns-clause-printed
returns-clause-printed g c runs are =
    let d = c.args.names.chart.now in
    let r = c.args.self.now.blocked_pairs in
    let number = c.count-count.ensures.number ∙ ap (λ (x : ReadyChart). length (between_of x c.rounds.result.numbers.now)) c.rounds.ensures.blocked_pairs ∙ ap (λ (x : Drawing). length (between_of r x)) c.rounds.ensures.numbers in
    between_rows c.print_again_count.new.printer c.print_pairs.new.printer c.args.format r c.as_slice.result.now c.args.self.now.ahead.items c.as_slice.ensures.value runs c.args.show
    c.args.printer.now d c.count-count.result number c.print_again_count.ensures (c.print_pairs.ensures.printed (λ p. runs p.1) (record { each = runs; are = are; same = λ p. refl }))

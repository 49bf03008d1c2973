use Rattle.std.proofs.Common.{refl, sym, ap, ◌∙◌, subst}
use Rattle.msc_ready.specs.Held.{ReadyChart}
use Rattle.msc_ready.specs.Views.{HasAhead}
use Rattle.msc_text.proofs.Readied.{blocked_pairs_count, sticks_printed, blocked_pairs_rows}
use Rattle.msc_text.proofs.readying.StickTable.print_sticks.Goals as goal

pub print_pairs-requires-clause-pairs : goal.print_pairs-requires-clause-pairs
print_pairs-requires-clause-pairs g c e inside =
    let r = c.args.self.now.blocked_pairs in
    let named = c.chart.ensures ∙ ap (λ (x : ReadyChart). x.chart) c.ready.ensures in
    sticks_printed r c.chart.result.now c.as_slice.result.now e c.facts.ensures
    (subst (HasAhead r) (sym c.as_slice.ensures.value) c.requires.ahead) (sym named) inside

pub returns-clause-more : goal.returns-clause-more
returns-clause-more g c =
    blocked_pairs_count c.args.self.now.blocked_pairs c.as_slice.result.now c.args.self.now.ahead.items c.args.show c.print_pairs.result c.as_slice.ensures.value c.print_pairs.ensures.count

pub returns-clause-printed : goal.returns-clause-printed
returns-clause-printed g c runs are =
    let r = c.args.self.now.blocked_pairs in
    let named = c.chart.ensures ∙ ap (λ (x : ReadyChart). x.chart) c.ready.ensures in
    blocked_pairs_rows c.args.printer.now c.print_pairs.new.printer c.args.format r c.as_slice.result.now c.args.self.now.ahead.items c.as_slice.ensures.value runs c.args.show
    c.chart.result.now named (c.print_pairs.ensures.printed (λ p. runs p.1) (record { each = runs; are = are; same = λ p. refl }))

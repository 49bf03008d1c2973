use Rattle.std.proofs.Common.{ℕ, Bool, [], length, sym, subst}
use Rattle.msc_chart.specs.Lists.{pairs_of}
use Rattle.msc_print.specs.Prints.{Prints}
use Rattle.msc_ready.specs.Held.{ready_in, wiring_of, ReadyChart}
use Rattle.msc_ready.specs.BlockedPairs.{AreLeft}
use Rattle.msc_text.specs.Readying.{told_left}
use Rattle.msc_text.proofs.Readied.{left_printed, left_prints}
use Rattle.msc_text.proofs.readying.StickTable.print_races.Goals as goal

pub invariant_of-pairs : goal.invariant_of-pairs
invariant_of-pairs g c =
    let r = c.ready-ready.result.now in
    record { wired = c.ends_share_queues.ensures r.queues r.chart c.facts.ensures.chart }

pub print_pairs-requires-clause-pairs : goal.print_pairs-requires-clause-pairs
print_pairs-requires-clause-pairs g c e inside =
    left_printed c.ready-ready.result.now _ c.chart.result.now e (sym c.chart.ensures) inside

pub returns-in_err-print_pairs-clause-printed : goal.returns-in_err-print_pairs-clause-printed
returns-in_err-print_pairs-clause-printed g c =
    let format = c.args.format in
    let printed = left_prints c.args.printer.now c.print_left_count.new.printer c.print_pairs.new.printer format c.ready-ready.result.now _ c.chart.result.now c.count_left-count.result
    c.chart.ensures c.count_left-count.ensures c.print_left_count.ensures (c.print_pairs.ensures.printed (λ p. []) tt) in
    subst (λ (x : ReadyChart). (left : ℕ → ℕ → Bool) → AreLeft (wiring_of x) (ready_in x) left
    → Prints c.args.printer.now c.print_pairs.new.printer (told_left format x.chart (pairs_of left (length x.chart.events)))) c.ready-ready.ensures printed

pub returns-clause-printed : goal.returns-clause-printed
returns-clause-printed g c =
    let format = c.args.format in
    let printed = left_prints c.args.printer.now c.print_left_count.new.printer c.print_pairs.new.printer format c.ready-ready.result.now _ c.chart.result.now c.count_left-count.result
    c.chart.ensures c.count_left-count.ensures c.print_left_count.ensures (c.print_pairs.ensures.printed (λ p. []) tt) in
    subst (λ (x : ReadyChart). (left : ℕ → ℕ → Bool) → AreLeft (wiring_of x) (ready_in x) left
    → Prints c.args.printer.now c.print_pairs.new.printer (told_left format x.chart (pairs_of left (length x.chart.events)))) c.ready-ready.ensures printed

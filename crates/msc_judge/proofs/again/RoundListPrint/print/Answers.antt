use Rattle.std.proofs.Common.{ℕ, [], Some, length, ap, ap₂, ◌∙◌, subst}
use Rattle.msc_chart.specs.Drawings.{Drawing}
use Rattle.msc_chart.specs.declared.queue.Queues.{Queues}
use Rattle.msc_print.specs.Prints.{Prints}
use Rattle.msc_race.specs.Wired.{EnforcedChart}
use Rattle.msc_judge.specs.Between.{told_of}
use Rattle.msc_judge.specs.Findings.{texts, totals_in}
use Rattle.msc_judge.specs.Rounds.{round_heading}
use Rattle.msc_judge.specs.Telling.{number_in, race_text, told_from}
use Rattle.msc_judge.specs.declared.renderer.Heading.{Heading}
use Rattle.msc_judge.specs.declared.renderer.Totals.{Totals}
use Rattle.msc_judge.proofs.Printed.{prints_all}
use Rattle.msc_judge.proofs.again.RoundListPrint.print.Goals as goal

pub returns-in_err-printed-clause-printed : goal.returns-in_err-printed-clause-printed
returns-in_err-printed-clause-printed g c text (runs, are, same) =
    let r = g.R.Renderer in
    let l = c.args.self.now in
    let s = l.renderer.now in
    let e = l.rounds.listing.now.judged in
    let t = texts r.heading_text r.run_text r.finding_text r.end_text s e.chart in
    let pairs = told_of l.rounds.numbers.now e l.rounds.listing.now.allowed in
    let chart = c.chart-chart.ensures ∙ ap (λ (x : EnforcedChart). x.chart) c.enforced-enforced.ensures in
    let queues = c.queues-queues.ensures ∙ ap (λ (x : EnforcedChart). x.queues) c.enforced-enforced.ensures in
    prints_all c.args.printer.now c.print_text.new.self c.print_races-printed.new.printer c.print_text-2.new.self
    (t.heading (round_heading e.queues (length pairs))) (told_from (race_text t e l.options runs) l.options.most (number_in l.heading) pairs) (t.end [] (Some (totals_in l.options.most l.stale (Some (length pairs)) l.heading))) text same
    (subst (λ (h : Heading). Prints c.args.printer.now c.print_text.new.self (t.heading h)) (c.round_heading.ensures ∙ ap₂ (λ (x : Queues) (n : ℕ). round_heading x n) queues c.requires.1)
    (subst (λ (d : Drawing). Prints c.args.printer.now c.print_text.new.self (r.heading_text s d c.round_heading.result)) chart c.print_text.ensures))
    (c.print_races-printed.ensures runs are)
    (subst (λ (n : ℕ). Prints c.print_races-printed.new.printer c.print_text-2.new.self (t.end [] (Some (totals_in l.options.most l.stale (Some n) l.heading)))) c.requires.1
    (subst (λ (x : Totals). Prints c.print_races-printed.new.printer c.print_text-2.new.self (t.end [] (Some x))) c.totals_in.ensures
    (subst (λ (d : Drawing). Prints c.print_races-printed.new.printer c.print_text-2.new.self (r.end_text s d [] (Some c.totals_in.result))) chart c.print_text-2.ensures)))

pub returns-clause-printed : goal.returns-clause-printed
returns-clause-printed g c text (runs, are, same) =
    let r = g.R.Renderer in
    let l = c.args.self.now in
    let s = l.renderer.now in
    let e = l.rounds.listing.now.judged in
    let t = texts r.heading_text r.run_text r.finding_text r.end_text s e.chart in
    let pairs = told_of l.rounds.numbers.now e l.rounds.listing.now.allowed in
    let chart = c.chart-chart.ensures ∙ ap (λ (x : EnforcedChart). x.chart) c.enforced-enforced.ensures in
    let queues = c.queues-queues.ensures ∙ ap (λ (x : EnforcedChart). x.queues) c.enforced-enforced.ensures in
    prints_all c.args.printer.now c.print_text.new.self c.print_races-printed.new.printer c.print_text-2.new.self
    (t.heading (round_heading e.queues (length pairs))) (told_from (race_text t e l.options runs) l.options.most (number_in l.heading) pairs) (t.end [] (Some (totals_in l.options.most l.stale (Some (length pairs)) l.heading))) text same
    (subst (λ (h : Heading). Prints c.args.printer.now c.print_text.new.self (t.heading h)) (c.round_heading.ensures ∙ ap₂ (λ (x : Queues) (n : ℕ). round_heading x n) queues c.requires.1)
    (subst (λ (d : Drawing). Prints c.args.printer.now c.print_text.new.self (r.heading_text s d c.round_heading.result)) chart c.print_text.ensures))
    (c.print_races-printed.ensures runs are)
    (subst (λ (n : ℕ). Prints c.print_races-printed.new.printer c.print_text-2.new.self (t.end [] (Some (totals_in l.options.most l.stale (Some n) l.heading)))) c.requires.1
    (subst (λ (x : Totals). Prints c.print_races-printed.new.printer c.print_text-2.new.self (t.end [] (Some x))) c.totals_in.ensures
    (subst (λ (d : Drawing). Prints c.print_races-printed.new.printer c.print_text-2.new.self (r.end_text s d [] (Some c.totals_in.result))) chart c.print_text-2.ensures)))

use Rattle.std.proofs.Common.{Option, length, ap, ◌∙◌, subst}
use Rattle.msc_chart.specs.Drawings.{Drawing}
use Rattle.msc_print.specs.Prints.{Prints}
use Rattle.msc_race.specs.Wired.{EnforcedChart}
use Rattle.msc_reason.specs.Counting.{listed}
use Rattle.msc_reason.specs.Marked.{cause_in}
use Rattle.msc_reason.specs.Selected.{Selected}
use Rattle.msc_judge.specs.Findings.{closing_totals, heading_of, left_of, texts}
use Rattle.msc_judge.specs.Telling.{race_text, told_from}
use Rattle.msc_judge.specs.declared.renderer.Heading.{Heading}
use Rattle.msc_judge.specs.declared.renderer.Totals.{Totals}
use Rattle.msc_judge.proofs.Printed.{prints_all}
use Rattle.msc_judge.proofs.judging.RaceListPrint.print.Goals as goal

pub returns-in_err-printed-clause-printed : goal.returns-in_err-printed-clause-printed
returns-in_err-printed-clause-printed g c text (runs, are, same) =
    let r = g.R.Renderer in
    let l = c.args.self.now in
    let s = l.rows.renderer.now in
    let e = l.rows.listing.now.judged in
    let q = l.rows.options in
    let t = texts r.heading_text r.run_text r.finding_text r.end_text s e.chart in
    let chart = c.chart-chart.ensures ∙ ap (λ (x : EnforcedChart). x.chart) c.enforced.ensures in
    prints_all c.args.printer.now c.print_text.new.self c.print_races-printed.new.printer c.print_text-2.new.self
    (t.heading (heading_of e q.closest (left_of q l.marking) (cause_in e))) (told_from (race_text t e q runs) q.most 0 (listed e (left_of q l.marking) q.closest (cause_in e))) (t.end l.marking.stale.now (closing_totals l.closes q.most (length l.marking.stale.now) (heading_of e q.closest (left_of q l.marking) (cause_in e)))) text same
    (subst (λ (h : Heading). Prints c.args.printer.now c.print_text.new.self (t.heading h)) c.requires.2
    (subst (λ (d : Drawing). Prints c.args.printer.now c.print_text.new.self (r.heading_text s d l.heading)) chart c.print_text.ensures))
    (subst (λ (x : Selected). Prints c.print_text.new.self c.print_races-printed.new.printer (told_from (race_text t e q runs) q.most 0 (listed e x.allowed x.closest (cause_in e)))) c.requires.1
    (c.print_races-printed.ensures runs are))
    (subst (λ (h : Heading). Prints c.print_races-printed.new.printer c.print_text-2.new.self (t.end l.marking.stale.now (closing_totals l.closes q.most (length l.marking.stale.now) h))) c.requires.2
    (subst (λ (o : Option Totals). Prints c.print_races-printed.new.printer c.print_text-2.new.self (t.end l.marking.stale.now o)) c.closing_totals.ensures
    (subst (λ (d : Drawing). Prints c.print_races-printed.new.printer c.print_text-2.new.self (r.end_text s d l.marking.stale.now c.closing_totals.result)) chart c.print_text-2.ensures)))

pub returns-clause-printed : goal.returns-clause-printed
returns-clause-printed g c text (runs, are, same) =
    let r = g.R.Renderer in
    let l = c.args.self.now in
    let s = l.rows.renderer.now in
    let e = l.rows.listing.now.judged in
    let q = l.rows.options in
    let t = texts r.heading_text r.run_text r.finding_text r.end_text s e.chart in
    let chart = c.chart-chart.ensures ∙ ap (λ (x : EnforcedChart). x.chart) c.enforced.ensures in
    prints_all c.args.printer.now c.print_text.new.self c.print_races-printed.new.printer c.print_text-2.new.self
    (t.heading (heading_of e q.closest (left_of q l.marking) (cause_in e))) (told_from (race_text t e q runs) q.most 0 (listed e (left_of q l.marking) q.closest (cause_in e))) (t.end l.marking.stale.now (closing_totals l.closes q.most (length l.marking.stale.now) (heading_of e q.closest (left_of q l.marking) (cause_in e)))) text same
    (subst (λ (h : Heading). Prints c.args.printer.now c.print_text.new.self (t.heading h)) c.requires.2
    (subst (λ (d : Drawing). Prints c.args.printer.now c.print_text.new.self (r.heading_text s d l.heading)) chart c.print_text.ensures))
    (subst (λ (x : Selected). Prints c.print_text.new.self c.print_races-printed.new.printer (told_from (race_text t e q runs) q.most 0 (listed e x.allowed x.closest (cause_in e)))) c.requires.1
    (c.print_races-printed.ensures runs are))
    (subst (λ (h : Heading). Prints c.print_races-printed.new.printer c.print_text-2.new.self (t.end l.marking.stale.now (closing_totals l.closes q.most (length l.marking.stale.now) h))) c.requires.2
    (subst (λ (o : Option Totals). Prints c.print_races-printed.new.printer c.print_text-2.new.self (t.end l.marking.stale.now o)) c.closing_totals.ensures
    (subst (λ (d : Drawing). Prints c.print_races-printed.new.printer c.print_text-2.new.self (r.end_text s d l.marking.stale.now c.closing_totals.result)) chart c.print_text-2.ensures)))

use Rattle.std.proofs.Common.{◌∙◌, ap, subst, length}
use Rattle.msc_print.specs.Prints.{Prints}
use Rattle.msc_print.specs.Rows.{below}
use Rattle.msc_race.specs.Wired.{IsEnforced}
use Rattle.msc_reason.specs.Marked.{listed_from}
use Rattle.msc_judge.specs.Findings.{texts}
use Rattle.msc_judge.specs.Telling.{race_text, told_from}
use Rattle.msc_judge.proofs.Asked.{are_races}
use Rattle.msc_judge.proofs.Listed.{all_listed, can_print_all}
use Rattle.msc_judge.proofs.RowTexts.{rows_are_told}
use Rattle.msc_judge.proofs.judging.RaceList.print_races.Goals as goal

pub print_pairs-requires-clause-pairs : goal.print_pairs-requires-clause-pairs
print_pairs-requires-clause-pairs g c e inside =
    let s = c.args.self.now.rows.listing.now in
    let is = subst IsEnforced c.enforced.ensures c.facts.ensures.order in
    can_print_all _ s.judged (listed_from s.judged s.allowed s.closest e) c.requires.fits (are_races s.judged is s.allowed s.closest e)

pub returns-in_err-print_pairs : goal.returns-in_err-print_pairs
returns-in_err-print_pairs g c runs are =
    let r = g.R.Renderer in
    let rows = c.args.self.now.rows in
    let s = rows.listing.now in
    let text = race_text (texts r.heading_text r.run_text r.finding_text r.end_text rows.renderer.now s.judged.chart) s.judged rows.options runs in
    subst (Prints c.args.printer.now c.print_pairs.new.printer)
    (rows_are_told rows.options.most text 0 (below (listed_from s.judged s.allowed s.closest) (length s.judged.chart.events))
    ∙ ap (told_from text rows.options.most 0) (all_listed s.judged s.allowed s.closest))
    (c.print_pairs.ensures.printed runs are)

pub returns : goal.returns
returns g c runs are =
    let r = g.R.Renderer in
    let rows = c.args.self.now.rows in
    let s = rows.listing.now in
    let text = race_text (texts r.heading_text r.run_text r.finding_text r.end_text rows.renderer.now s.judged.chart) s.judged rows.options runs in
    subst (Prints c.args.printer.now c.print_pairs.new.printer)
    (rows_are_told rows.options.most text 0 (below (listed_from s.judged s.allowed s.closest) (length s.judged.chart.events))
    ∙ ap (told_from text rows.options.most 0) (all_listed s.judged s.allowed s.closest))
    (c.print_pairs.ensures.printed runs are)

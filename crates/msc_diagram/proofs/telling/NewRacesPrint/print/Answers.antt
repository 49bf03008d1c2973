use Rattle.std.proofs.Common.{sym, ap, ◌∙◌, subst}
use Rattle.std.proofs.lemmas.List.{append-nil}
use Rattle.msc_print.specs.Prints.{Prints}
use Rattle.msc_judge.specs.Findings.{texts}
use Rattle.msc_judge.specs.Telling.{race_text, told_from}
use Rattle.msc_judge.proofs.Listed.{can_print_all}
use Rattle.msc_judge.proofs.RowTexts.{rows_are_told}
use Rattle.msc_diagram.proofs.telling.NewRacesPrint.print.Goals as goal

pub print_pairs-requires-clause-pairs : goal.print_pairs-requires-clause-pairs
print_pairs-requires-clause-pairs g c e inside =
    can_print_all _ c.args.self.now.rows.now.listing.now.judged c.args.self.now.races.now c.requires.0 c.requires.1

pub returns-in_err-print_pairs-clause-printed : goal.returns-in_err-print_pairs-clause-printed
returns-in_err-print_pairs-clause-printed g c text (runs, are, same) =
    let r = g.R.Renderer in
    let n = c.args.self.now in
    let e = n.rows.now.listing.now.judged in
    let t = race_text (texts r.heading_text r.run_text r.finding_text r.end_text n.rows.now.renderer.now e.chart) e n.rows.now.options runs in
    let most = n.rows.now.options.most in
    subst (Prints c.args.printer.now c.print_pairs.new.printer)
    (rows_are_told most t n.first _ ∙ ap (told_from t most n.first) (append-nil n.races.now) ∙ sym same)
    (c.print_pairs.ensures.printed runs are)

pub returns-clause-printed : goal.returns-clause-printed
returns-clause-printed g c text (runs, are, same) =
    let r = g.R.Renderer in
    let n = c.args.self.now in
    let e = n.rows.now.listing.now.judged in
    let t = race_text (texts r.heading_text r.run_text r.finding_text r.end_text n.rows.now.renderer.now e.chart) e n.rows.now.options runs in
    let most = n.rows.now.options.most in
    subst (Prints c.args.printer.now c.print_pairs.new.printer)
    (rows_are_told most t n.first _ ∙ ap (told_from t most n.first) (append-nil n.races.now) ∙ sym same)
    (c.print_pairs.ensures.printed runs are)

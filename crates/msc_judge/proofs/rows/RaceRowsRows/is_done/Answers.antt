use Rattle.msc_judge.specs.Findings.{texts}
use Rattle.msc_judge.specs.Telling.{race_text}
use Rattle.msc_judge.proofs.RowTexts.{count_stays, rows_past}
use Rattle.msc_judge.proofs.rows.RaceRowsRows.is_done.Goals as goal

pub returns-clause-rows : goal.returns-clause-rows
returns-clause-rows g c done runs pairs =
    let r = g.R.Renderer in
    let s = c.args.self.now in
    let e = s.listing.now.judged in
    rows_past s.options.most (race_text (texts r.heading_text r.run_text r.finding_text r.end_text s.renderer.now e.chart) e s.options runs) c.args.count pairs c.if-count-self.false

pub returns-clause-count : goal.returns-clause-count
returns-clause-count g c done pairs = count_stays c.args.self.now.options.most c.args.count pairs c.if-count-self.false

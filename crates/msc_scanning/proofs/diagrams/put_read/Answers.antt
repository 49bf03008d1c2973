use Rattle.std.proofs.Common.{inl, inr}
use Rattle.msc_answer.proofs.SurveyLemmas.{all_charts}
use Rattle.msc_scanning.proofs.Given.{given, told}
use Rattle.msc_scanning.specs.Diagrams.{words_at, PutsAll, PutsRead}
use Rattle.msc_scanning.proofs.diagrams.put_read.Goals as goal

pub put_scenarios-requires : goal.put_scenarios-requires
put_scenarios-requires g c =
    let site = c.args.site in let text = site.diagram.text.now in
    all_charts c.imports_are_charts.ensures.all (words_at site) text c.in-Ok.all (c.in-Ok.ensures text site.number c.requires)

pub returns-in-Ok : goal.returns-in-Ok
returns-in-Ok g c =
    let p = c.args.plan in let site = c.args.site in let text = site.diagram.text.now in let all = c.in-Ok.all in
    let is = c.in-Ok.ensures text site.number c.requires in
    given g.O.Write.contents (PutsAll p site all) (PutsRead p site)
    (λ outcome printed puts. inl (all, is, all_charts c.imports_are_charts.ensures.all (words_at site) text all is, puts))
    c.put_scenarios.result c.args.output.now c.put_scenarios.new.output c.put_scenarios.ensures

pub returns-in-Err : goal.returns-in-Err
returns-in-Err g c =
    let p = c.args.plan in let site = c.args.site in let text = site.diagram.text.now in
    told g.O.Write.contents p site.label.now site.diagram.file.now text c.in-Err.refusal (PutsRead p site)
    (λ outcome printed so. inr (c.in-Err.refusal, c.in-Err.ensures text site.number c.requires, so))
    c.put_refusal.result c.args.output.now c.put_refusal.new.output
    (rw (c.origin_of-origin.ensures.label, c.origin_of-origin.ensures.file, c.origin_of-origin.ensures.text) at c.put_refusal.ensures)

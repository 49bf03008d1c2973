use Rattle.std.proofs.Common.{ℕ, List, Bool, Option, Some, None, cond, sym, ap, ◌∙◌, subst}
use Rattle.std.proofs.lemmas.Bool.{lt-ltb}
use Rattle.msc_print.specs.Prints.{Prints}
use Rattle.msc_reason.specs.Marked.{cause_in}
use Rattle.msc_judge.specs.Findings.{finding_of}
use Rattle.msc_judge.proofs.rows.RaceRows.print_shown.Goals as goal

pub returns-in-Ok-clause-printed : goal.returns-in-Ok-clause-printed
returns-in-Ok-clause-printed g c runs are =
    let e = c.args.self.now.listing.now.judged in
    let q = c.args.self.now.options in
    let r = g.R.Renderer in
    let s = c.args.self.now.renderer.now in
    let text : List ℕ = r.run_text s e.chart (runs c.args.race) in
    let line = ap Some (c.as_slice.ensures.value ∙ c.in-Ok.ensures.line runs are)
    ∙ sym (ap (λ (b : Bool). cond b (Some text) None) (lt-ltb c.args.number q.show c.requires.shown)) in
    subst (λ (o : Option (List ℕ)). Prints c.args.printer.now c.print_finding.new.printer (r.finding_text s e.chart (finding_of q.why (cause_in e) c.args.number c.args.race) o))
    line c.print_finding.ensures

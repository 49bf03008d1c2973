use Rattle.std.proofs.Common.{None, Some, sym, ap, ◌∙◌}
use Rattle.msc_import.specs.Drafting.{shown_by}
use Rattle.msc_import.proofs.DraftLemmas.{shown_more, shown_end}
use Rattle.msc_import.proofs.drafting.shown_of.Goals as goal

pub returns-in-Some : goal.returns-in-Some
returns-in-Some c =
    let l = c.loop-placed in let ident = c.args.ident.now in
    sym (shown_more ident c.args.statements.now l.placed-index c.placed-item.result (Some c.in-Some.shown.now) c.loop-placed-test.true (sym (ap (λ p. shown_by ident p.statement) c.placed-item.is) ∙ sym c.in-Some.ensures)) ∙ l.invariant

pub loop-placed-preserved : goal.loop-placed-preserved
loop-placed-preserved c =
    let l = c.loop-placed in let ident = c.args.ident.now in
    sym (shown_more ident c.args.statements.now l.placed-index c.placed-item.result None c.loop-placed-test.true (sym (ap (λ p. shown_by ident p.statement) c.placed-item.is) ∙ sym c.in_default.ensures)) ∙ l.invariant

pub returns : goal.returns
returns c =
    let l = c.loop-placed in
    sym (shown_end c.args.ident.now c.args.statements.now l.placed-index c.loop-placed-test.false) ∙ l.invariant

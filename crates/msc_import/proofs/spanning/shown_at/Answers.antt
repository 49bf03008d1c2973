use Rattle.std.proofs.Common.{Some, sym, ap, ◌∙◌}
use Rattle.msc_import.specs.Places.{shows}
use Rattle.msc_import.proofs.SpanLemmas.{at_here, at_later, at_end}
use Rattle.msc_import.proofs.spanning.shown_at.Goals as goal

pub returns-then-shows : goal.returns-then-shows
returns-then-shows c =
    let l = c.loop-placed in let ident = c.args.ident.now in
    let is = sym (ap (λ p. shows ident p.statement) c.placed-item.is) ∙ sym c.shows.ensures ∙ c.if-shows.true in
    ap (λ p. Some p.shown) c.placed-item.is ∙ sym (at_here ident c.args.statements.now l.placed-index c.placed-item.result c.loop-placed-test.true is) ∙ l.invariant

pub loop-placed-preserved : goal.loop-placed-preserved
loop-placed-preserved c =
    let l = c.loop-placed in let ident = c.args.ident.now in
    let is = sym (ap (λ p. shows ident p.statement) c.placed-item.is) ∙ sym c.shows.ensures ∙ c.if-shows.false in
    sym (at_later ident c.args.statements.now l.placed-index c.placed-item.result c.loop-placed-test.true is) ∙ l.invariant

pub returns : goal.returns
returns c =
    let l = c.loop-placed in
    sym (at_end c.args.ident.now c.args.statements.now l.placed-index c.loop-placed-test.false) ∙ l.invariant

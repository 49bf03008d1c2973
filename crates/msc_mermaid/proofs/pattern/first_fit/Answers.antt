use Rattle.std.proofs.Common.{None, Some, sym, ap, ◌∙◌}
use Rattle.msc_mermaid.specs.Patterns.{fits}
use Rattle.msc_mermaid.proofs.RowLemmas.{fit_more, fit_end}
use Rattle.msc_mermaid.proofs.pattern.first_fit.Goals as goal

pub returns-in-Some : goal.returns-in-Some
returns-in-Some c =
    let bytes = c.args.bytes.now in
    sym (fit_more c.args.patterns.now c.loop-pattern.pattern-index _ bytes (Some c.in-Some.rest.now) c.loop-pattern-test.true (sym (ap (λ ps. fits ps bytes) c.parts.ensures) ∙ sym c.in-Some.ensures)) ∙ c.loop-pattern.invariant

pub loop-pattern-preserved : goal.loop-pattern-preserved
loop-pattern-preserved c =
    let bytes = c.args.bytes.now in
    sym (fit_more c.args.patterns.now c.loop-pattern.pattern-index _ bytes None c.loop-pattern-test.true (sym (ap (λ ps. fits ps bytes) c.parts.ensures) ∙ sym c.in_default.ensures)) ∙ c.loop-pattern.invariant

pub returns : goal.returns
returns c =
    sym (fit_end c.args.patterns.now c.loop-pattern.pattern-index c.args.bytes.now c.loop-pattern-test.false) ∙ c.loop-pattern.invariant

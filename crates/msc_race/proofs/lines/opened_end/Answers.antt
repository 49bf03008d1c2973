use Rattle.std.proofs.Common.{inl, inr, refl}
use Rattle.msc_chart.specs.Charts.{before}
use Rattle.msc_race.proofs.Shared.{by_test, clash}
use Rattle.msc_race.proofs.lines.opened_end.Goals as goal

pub returns-then-not-is_on-clause-end : goal.returns-then-not-is_on-clause-end
returns-then-not-is_on-clause-end c = inr (refl, λ below here. clash (c.is_on.ensures.1 (below, here)) c.if-not-is_on.true)

pub returns-then-not-before-clause-end : goal.returns-then-not-before-clause-end
returns-then-not-before-clause-end c =
    inr (refl, λ below here. by_test (before c.args.choice.now.wiring.chart.now.events c.args.start c.args.front) (λ h. clash (c.before-2.ensures.1 h) c.if-not-before.true) (λ h. h))

pub returns-clause-end : goal.returns-clause-end
returns-clause-end c = inl ((c.is_on.ensures.0 c.if-not-is_on.false).1, c.segment_end.ensures)

use Rattle.std.proofs.Common.{refl}
use Rattle.msc_chart.specs.Wirings.{wired_by}
use Rattle.msc_chart.proofs.ListLemmas.{clash}
use Rattle.msc_gather.proofs.MarkLemmas.{marking_begins, marking_more, marking_fails}
use Rattle.msc_gather.proofs.marking.mark_log.Goals as goal

pub loop-e-init : goal.loop-e-init
loop-e-init c =
    marking_begins (wired_by c.args.w.now) c.args.i c.line-start.result.0 c.args.log.now
    c.args.marks.now _
    c.first_open-front.ensures

pub may_be_marked-requires-clause-line : goal.may_be_marked-requires-clause-line
may_be_marked-requires-clause-line c = (c.line-start.result.1, c.line-start.ensures.range)

pub returns-then-not-may_be_marked-clause-told : goal.returns-then-not-may_be_marked-clause-told
returns-then-not-may_be_marked-clause-told c = (
  λ no. clash no refl,
  λ log. absurd (marking_fails c.requires.open c.requires.long c.loop-e.invariant c.loop-e-test.true
      (λ may. clash (c.may_be_marked.ensures.1 may) c.if-not-may_be_marked.true) log),
)

pub loop-e-preserved : goal.loop-e-preserved
loop-e-preserved c =
    marking_more c.requires.open c.requires.long c.loop-e.invariant
    c.first_open-front-in-loop-e.result
    c.loop-e-test.true (c.may_be_marked.ensures.0 c.if-not-may_be_marked.false)
    c.first_open-front-in-loop-e.ensures

use Rattle.std.proofs.Common.{◌+◌, drop, sym, ap₂, ◌∙◌, arith}
use Rattle.msc_scenarios.specs.Steps.{joint}
use Rattle.msc_scenarios.proofs.JointLemmas.{joint_end, joint_ends, joint_here, joint_later}
use Rattle.msc_scenarios.proofs.steps.joint.Goals as goal

pub returns-then-ends_at : goal.returns-then-ends_at
returns-then-ends_at c =
    let l = c.loop-i in let p = c.index-statements-i.result in
    sym (joint_ends l.depth l.left c.args.statements.now l.i p c.index-statements-i.is c.loop-i-test.true (sym c.if-ends_at.ensures)) ∙ l.invariant.0

pub returns-then-is_sought : goal.returns-then-is_sought
returns-then-is_sought c =
    let l = c.loop-i in let p = c.index-statements-i.result in
    sym (joint_here l.depth l.left c.args.statements.now l.i p c.index-statements-i.is c.loop-i-test.true (sym c.if-ends_at.ensures) (sym c.if-is_sought.ensures)) ∙ l.invariant.0

pub loop-i-preserved : goal.loop-i-preserved
loop-i-preserved c =
    let l = c.loop-i in let p = c.index-statements-i.result in
    let later = joint_later l.depth l.left c.args.statements.now l.i p c.index-statements-i.is c.loop-i-test.true (sym c.if-ends_at.ensures) (sym c.if-is_sought.ensures) in
    let same = ap₂ (λ d n. joint d n (drop (l.i + 1) c.args.statements.now)) c.deeper-depth.ensures.value c.left_after-left.ensures in
    (same ∙ sym later ∙ l.invariant.0, omega (arith, c.deeper-depth.ensures.most, l.invariant.1))

pub returns : goal.returns
returns c =
    let l = c.loop-i in
    sym (joint_end l.depth l.left c.args.statements.now l.i c.loop-i-test.false) ∙ l.invariant.0

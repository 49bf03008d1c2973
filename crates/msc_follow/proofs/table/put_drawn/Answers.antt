use Rattle.std.proofs.Common.{ℕ, inl, inr, length, arith}
use Rattle.std.proofs.lemmas.Bool.{cases_lt}
use Rattle.msc_chart.specs.Charts.{before}
use Rattle.msc_order.proofs.Drawing.{before_later}
use Rattle.msc_follow.proofs.Gaining.{gains_none, gains_same}
use Rattle.msc_follow.proofs.Shared.{before_parts}
use Rattle.msc_follow.proofs.table.put_drawn.Goals as goal

pub loop-y-init : goal.loop-y-init
loop-y-init c =
    let d = c.args.chart.now in
    gains_none (length d.events) c.args.words.now c.args.x (before d.events c.args.x) _
    (λ y less h. let later = before_later d.events c.events-events.ensures.accepted.in_text_order c.args.x y h in omega (arith, less, later))

pub returns : goal.returns
returns c =
    let d = c.args.chart.now in
    let end = c.line_end-y-end in
    gains_same (length d.events) c.args.words.now c.args.x (before d.events c.args.x) c.loop-y.words _ (λ (w : ℕ). Unit {0}) c.loop-y.invariant
    (λ y m h.
    let p = before_parts d.events c.args.x y h in
    elim (cases_lt y end.result) [
      | inl less ↦ omega (arith, less, c.loop-y-test.false)
      | inr past ↦ absurd (end.ensures.past y past p.1 p.2)
    ])

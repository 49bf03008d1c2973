use Rattle.std.proofs.Common.{◌≡◌, ℕ, ◌+◌, ◌<◌, true, inl, inr, length, sym, ap, ◌∙◌, subst, arith}
use Rattle.std.proofs.lemmas.Bool.{cases_eq, cases_lt}
use Rattle.msc_chart.specs.Charts.{partner}
use Rattle.msc_chart.specs.Orders.{wired}
use Rattle.msc_order.proofs.Drawing.{before_later}
use Rattle.msc_follow.specs.Steps.{is_ahead}
use Rattle.msc_follow.proofs.Gaining.{gains_none, gains_put, gains_same}
use Rattle.msc_follow.proofs.Shared.{before_parts, clash, output_below}
use Rattle.msc_follow.proofs.Steps.{ahead_parts}
use Rattle.msc_follow.proofs.table.put_ahead.Goals as goal
use Rattle.msc_follow.proofs.table.put_ahead.Goals.{then-is_ahead, else-is_ahead}

pub loop-u-init : goal.loop-u-init
loop-u-init c =
    let d = c.args.wiring.now.chart.now in
    let chart = wired c.args.wiring.now.queues d in
    gains_none (length d.events) c.args.words.now c.args.x (is_ahead chart c.args.x) _ (λ y less h.
    let later = before_later d.events c.events-events.ensures.accepted.in_text_order _ _ (ahead_parts chart c.args.x y h).inputs in
    omega (arith, less, later, c.other_end-r.ensures.value))

pub loop-u-preserved : goal.loop-u-preserved
loop-u-preserved c =
    let d = c.args.wiring.now.chart.now in
    let chart = wired c.args.wiring.now.queues d in
    let n = length d.events in
    let x : ℕ = c.args.x in
    let u : ℕ = c.loop-u.u in
    let y : ℕ = c.other_end-y.result in
    let done = λ (w : ℕ). partner d.events w < u in
    let more = λ (w : ℕ). partner d.events w < u + 1 in
    let same : (w : ℕ) → is_ahead chart x w ≡ true → partner d.events w ≡ u → w ≡ y = λ w h is.
    sym (c.events-events.ensures.accepted.matched.to_and_fro w (output_below d.events w (ahead_parts chart x w h).second))
    ∙ ap (λ (z : ℕ). partner d.events z) is ∙ sym c.other_end-y.ensures.value in
    elim c.if-is_ahead.branch [
      | then-is_ahead w ↦
          let put = rw c.events-events.ensures.number at w.put.ensures in
          rw w.words-is (gains_put n c.args.words.now x (is_ahead chart x) c.loop-u.words done more c.loop-u.invariant w.put.new.words y
          (sym c.is_ahead.ensures ∙ w.if-is_ahead.true) put (λ z m h. elim (cases_eq (partner d.events z) u) [
            | inl is ↦ inr (same z h is)
            | inr other ↦ inl (omega (arith, m, other))
          ]))
      | else-is_ahead w ↦
          rw w.words-is (gains_same n c.args.words.now x (is_ahead chart x) c.loop-u.words done more c.loop-u.invariant (λ z m h. elim (cases_eq (partner d.events z) u) [
            | inl is ↦
                let passes = subst (λ (v : ℕ). is_ahead chart x v ≡ true) (same z h is) h in
                clash (c.is_ahead.ensures ∙ passes) w.if-is_ahead.false
            | inr other ↦ omega (arith, m, other)
          ]))
    ]

pub returns : goal.returns
returns c =
    let d = c.args.wiring.now.chart.now in
    let chart = wired c.args.wiring.now.queues d in
    let end = c.line_end-u-end in
    let r = c.other_end-r.ensures.value in
    gains_same (length d.events) c.args.words.now c.args.x (is_ahead chart c.args.x) c.loop-u.words _ (λ (w : ℕ). Unit {0}) c.loop-u.invariant
    (λ y m h.
    let p = before_parts d.events _ _ (ahead_parts chart c.args.x y h).inputs in
    elim (cases_lt (partner d.events y) end.result) [
      | inl less ↦ omega (arith, less, c.loop-u-test.false)
      | inr past ↦ absurd (end.ensures.past (partner d.events y) past p.1 (rw r p.2))
    ])

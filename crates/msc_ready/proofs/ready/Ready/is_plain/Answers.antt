use Rattle.std.proofs.Common.{ℕ, inl, inr, sym, ◌∙◌, refl, subst}
use Rattle.msc_chart.specs.Charts.{line, Visual}
use Rattle.msc_ready.specs.Held.{wiring_of, ready_of}
use Rattle.msc_ready.proofs.Shared.{by_test, clash}
use Rattle.msc_ready.proofs.Runs.Fewer.{loose_told, tight_told}
use Rattle.msc_ready.proofs.ready.Ready.is_plain.Goals as goal

pub returns-then-not-is_loose : goal.returns-then-not-is_loose
returns-then-not-is_loose c =
    let r = c.args.self.now in
    let visual = c.facts.ensures.order.visual in
    let is_wired = c.ends_share_queues.ensures r.queues r.chart c.facts.ensures.chart in
    let told = tight_told (wiring_of r) (ready_of c.args.lines.now) is_wired c.args.x c.args.y
    (λ i. by_test (ready_of c.args.lines.now (line r.chart.events c.args.y)) (λ set. set) (λ loose. clash (c.is_loose.ensures.1 (i, loose)) c.if-not-is_loose.true)) in (
      λ h. told.1 (visual.holds c.args.x c.args.y c.requires.x_known c.requires.y_known (sym c.precedes.ensures ∙ h)),
      λ h. c.precedes.ensures ∙ visual.complete c.args.x c.args.y (told.0 h),
    )

pub returns-then-x-output : goal.returns-then-x-output
returns-then-x-output c =
    let r = c.args.self.now in
    let is_wired = c.ends_share_queues.ensures r.queues r.chart c.facts.ensures.chart in
    let loose = c.is_loose.ensures.0 c.if-not-is_loose.false in
    let told = loose_told (wiring_of r) (ready_of c.args.lines.now) is_wired c.args.x c.args.y loose.0 loose.1 in
    let output = rw c.chart.ensures at c.other_end-output.ensures.value in
    (λ h. told.1 (inl (c.if-x-output.true ∙ output)), λ h. refl)

pub returns : goal.returns
returns c =
    let r = c.args.self.now in
    let visual = c.facts.ensures.order.visual in
    let is_wired = c.ends_share_queues.ensures r.queues r.chart c.facts.ensures.chart in
    let loose = c.is_loose.ensures.0 c.if-not-is_loose.false in
    let told = loose_told (wiring_of r) (ready_of c.args.lines.now) is_wired c.args.x c.args.y loose.0 loose.1 in
    let output = rw c.chart.ensures at c.other_end-output.ensures.value in
    let known = rw c.chart.ensures at c.other_end-output.ensures.known in (
      λ h. told.1 (inr (subst (λ (z : ℕ). Visual r.chart.events c.args.x z) output
          (visual.holds c.args.x c.other_end-output.result c.requires.x_known known (sym c.precedes-2.ensures ∙ h)))),
      λ h. elim (told.0 h) [
        | inl same ↦ absurd (c.if-x-output.false (same ∙ sym output))
        | inr k ↦ c.precedes-2.ensures ∙ visual.complete c.args.x c.other_end-output.result (subst (λ (z : ℕ). Visual r.chart.events c.args.x z) (sym output) k)
      ],
    )

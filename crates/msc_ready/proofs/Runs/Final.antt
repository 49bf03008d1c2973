-- A blocked pair is final: where its outputs were sent in the other order, no continuation is
-- whole.
use Rattle.std.proofs.Common.{◌≡◌, ◌≢◌, ℕ, Bool, true, List, ◌++◌, ap, sym, ◌∙◌, subst}
use Rattle.msc_chart.specs.Lists.{occurs, until}
use Rattle.msc_chart.specs.Charts.{line, partner, is_input, before}
use Rattle.msc_chart.specs.Orders.{WiredChart, IsWired, queue}
use Rattle.msc_chart.specs.Runs.{IsWhole, Reverses, is_waiting}
use Rattle.msc_ready.specs.Readiness.{MayComeReady, ReadyRun}
use Rattle.msc_ready.specs.BlockedPairs.{IsBlockedPair}
use Rattle.msc_ready.proofs.Shared.{clash, step_at, until-within, until-append, until-self, occurs-left, first_occurs, before_first_fails, before_differs, before_parts, partner_of_input, taken, until_swapped, until_until}

-- two inputs of one queue that are drawn in an order on a ready line
pub record IsLined (chart : WiredChart) (ready : ℕ → Bool) (e f : ℕ) : Type 0 where
  pub drawn : before chart.events e f ≡ true
  pub first : is_input chart.events e ≡ true
  pub second : is_input chart.events f ≡ true
  pub one_queue : queue chart e ≡ queue chart f
  pub set : ready (line chart.events f) ≡ true

-- a blocked pair is two such inputs
pub lined_of : (chart : WiredChart) (ready : ℕ → Bool) (e f : ℕ) → IsBlockedPair chart ready e f → IsLined chart ready e f
lined_of chart ready e f blocked_pair =
    record { drawn = blocked_pair.drawn; first = blocked_pair.inputs.0; second = blocked_pair.inputs.1; one_queue = blocked_pair.one_queue; set = blocked_pair.line }

module _ (chart : WiredChart) (is_wired : IsWired chart) (ready : ℕ → Bool) (e f : ℕ)
    (lined : IsLined chart ready e f) where
  -- the outputs are two
  pub outputs_differ : partner chart.events f ≢ partner chart.events e
  outputs_differ same =
      let below = before_parts chart.events e f lined.drawn in
      let back = sym (is_wired.matched.to_and_fro e below.0) ∙ ap (partner chart.events) (sym same)
      ∙ is_wired.matched.to_and_fro f below.1 in
      before_differs chart.events e f lined.drawn back

  -- In a whole ready run e stands before f, and when e came its output was the first of the queue:
  -- so the output of f, if it had been sent before, would have been taken before. But f comes
  -- later.
  pub no_whole_run : (whole : List ℕ) → ReadyRun chart ready whole → IsWhole chart whole
      → Reverses whole (partner chart.events e) (partner chart.events f) → ⊥
  no_whole_run whole run all reverses =
      let below = before_parts chart.events e f lined.drawn in
      let s : ℕ = partner chart.events e in
      let t : ℕ = partner chart.events f in
      let to_f : List ℕ = until whole f in
      let at_f = step_at (MayComeReady chart ready) whole f run (all f below.1) in
      let e_there : occurs to_f e ≡ true = at_f.1.awaited lined.second lined.set e lined.drawn in
      let to_e : List ℕ = until to_f e in
      let at_e = step_at (MayComeReady chart ready) to_f e at_f.0 e_there in
      let first = at_e.1.may.input lined.first in
      let s_there : occurs to_e s ≡ true = (first_occurs _ to_e s first).0 in
      let early : occurs (until whole s) t ≡ true = until_swapped whole s t outputs_differ reverses.0 reverses.1 in
      let one = until_until whole s f (until-within to_f e s s_there) in
      let two = until_until to_f s e s_there in
      let in_time : occurs (until to_e s) t ≡ true = subst (λ (l : List ℕ). occurs l t ≡ true) (one ∙ two) early in
      let gone = before_first_fails (is_waiting chart (queue chart e) to_e) to_e s t first in_time in
      let queues : queue chart t ≡ queue chart e = is_wired.one_queue f below.1 ∙ sym lined.one_queue in
      let took = taken chart (queue chart e) to_e t (partner_of_input chart.events is_wired.matched f lined.second) queues gone in
      let f_there : occurs to_e f ≡ true = subst (λ (z : ℕ). occurs to_e z ≡ true) (is_wired.matched.to_and_fro f below.1) took in
      clash (until-within to_f e f f_there) (until-self whole f)

  -- so no run that has them in the other order goes on to a whole one
  pub final : (events rest : List ℕ) → ReadyRun chart ready (events ++ rest)
      → Reverses events (partner chart.events e) (partner chart.events f)
      → IsWhole chart (events ++ rest) → ⊥
  final events rest run reverses all =
      no_whole_run (events ++ rest) run all (
        occurs-left events rest (partner chart.events f) reverses.0,
        ap (λ (l : List ℕ). occurs l (partner chart.events e)) (until-append events rest (partner chart.events f) reverses.0) ∙ reverses.1,
      )

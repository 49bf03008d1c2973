-- Several rounds of a chart have a whole ready run exactly where one round has one: a ring stays in
-- a round.
use Rattle.std.proofs.Common.{◌↔◌, ℕ, ◌<◌, Bool, arith}
use Rattle.msc_chart.specs.declared.queue.Queues.{Queues}
use Rattle.msc_chart.specs.Drawings.{Drawing}
use Rattle.msc_chart.specs.Orders.{WiredChart}
use Rattle.msc_chart.proofs.Moves.{to}
use Rattle.msc_chart.proofs.UnrolledCharts.{HasRounds}
use Rattle.msc_ready.specs.Finishing.{HasNoWholeRing, MayFinish}
use Rattle.msc_ready.proofs.Repeating.UnrolledCharts.{one_line}
use Rattle.msc_ready.proofs.Repeating.Moving.{whole_moved}
use Rattle.msc_ready.proofs.Runs.Whole.{finishes, no_ring}

module _ {queues : Queues} {d : Drawing} (ready : ℕ → Bool) where
  -- where m rounds have no ring, each round of n rounds has none
  ring_moved : {n m : ℕ} {chart other : WiredChart} (a : HasRounds queues d n chart) (b : HasRounds queues d m other)
      → 0 < m → HasNoWholeRing other ready → HasNoWholeRing chart ready
  ring_moved a b some none e ring =
      none (to a b (a.round_at e) 0 e)
      (whole_moved ready a b (a.round_at e) 0 1 (omega arith) e e ring (omega arith) (omega arith))

  module _ {n m : ℕ} {chart other : WiredChart} (a : HasRounds queues d n chart) (b : HasRounds queues d m other)
      (some : 0 < n) (more : 0 < m) where
    -- so they have none alike
    pub ring_both : HasNoWholeRing chart ready ↔ HasNoWholeRing other ready
    ring_both = (ring_moved b a some, ring_moved a b more)

    -- and finish alike
    pub finish_both : MayFinish chart ready ↔ MayFinish other ready
    finish_both = (
      λ h. finishes other b.is_wired (one_line b) ready (ring_both.0 (no_ring chart a.is_wired (one_line a) ready h)),
      λ h. finishes chart a.is_wired (one_line a) ready (ring_both.1 (no_ring other b.is_wired (one_line b) ready h)),
    )

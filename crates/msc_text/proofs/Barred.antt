-- The steps of a ring that keeps each run from a drawing are between events of the chart.
use Rattle.std.proofs.Common.{ℕ, ◌<◌, List, [], ◌∷◌, ◌++◌, length, sym, subst, arith}
use Rattle.std.proofs.lemmas.List.Elements.{All-cons, All-from_get_or, All-head, All-push, All-tail}
use Rattle.msc_chart.specs.Drawings.{Drawing}
use Rattle.msc_chart.specs.Orders.{wired}
use Rattle.msc_chart.specs.declared.queue.Queues.{Queues}
use Rattle.msc_follow.specs.Following.{IsLeastStepRing}
use Rattle.msc_reason.specs.Named.{AreEventsOf}
use Rattle.msc_report.specs.Following.{ring_steps, steps_from, AreStepsOf}
use Rattle.msc_text.specs.Judging.{IsBarred, IsRingIn}
use Rattle.msc_text.specs.declared.judging.ChartFormat.{ChartFormat}
use Rattle.msc_text.specs.declared.judging.ChartFormat.TheVariants.{Lines, Count, Editor, Full}

module _ (d : Drawing) where
  -- the steps over events of the chart are steps of the chart
  from_known : (x : ℕ) (events : List ℕ) → x < length d.events → AreEventsOf d events → AreStepsOf d (steps_from x events)
  from_known x [] known all = λ i e within. absurd (omega (arith, within))
  from_known x (y ∷ events) known all =
      let next = All-head (λ (e : ℕ). e < length d.events) y events all in
      All-cons (λ (p : ℕ × ℕ). (p.0 < length d.events) × (p.1 < length d.events)) (x, y) (steps_from y events) (known, next)
      (from_known y events next (All-tail (λ (e : ℕ). e < length d.events) y events all))

  pub steps_known : (ring : List ℕ) → AreEventsOf d ring → AreStepsOf d (ring_steps ring)
  steps_known [] all = λ i e within. absurd (omega (arith, within))
  steps_known (x ∷ events) all =
      let first = All-head (λ (e : ℕ). e < length d.events) x events all in
      from_known x (events ++ x ∷ []) first
      (All-push (λ (e : ℕ). e < length d.events) events x (All-tail (λ (e : ℕ). e < length d.events) x events all) first)

  -- a ring is one of events
  pub ring_known : (queues : Queues) (ring : List ℕ) → IsLeastStepRing (wired queues d) ring → AreEventsOf d ring
  ring_known queues ring is = All-from_get_or (λ (e : ℕ). e < length d.events) ring 0 (λ k within. is.is_ring.is_ring.inside k within)

  barred_known : (queues : Queues) (ring : List ℕ) → IsBarred (wired queues d) ring → AreEventsOf d ring
  barred_known queues [] barred = λ i e within. absurd (omega (arith, within))
  barred_known queues (x ∷ ring) barred = ring_known queues (x ∷ ring) barred.0

  -- and so is what a format prints
  pub told_known : (queues : Queues) (format : ChartFormat) (ring : List ℕ) → IsRingIn format (wired queues d) ring → AreEventsOf d ring
  told_known queues (Editor event_positions) ring barred = barred_known queues ring barred
  told_known queues (Full full) ring barred = barred_known queues ring barred
  told_known queues (Lines style) ring none = subst (AreEventsOf d) (sym none) (λ i e within. absurd (omega (arith, within)))
  told_known queues (Count file) ring none = subst (AreEventsOf d) (sym none) (λ i e within. absurd (omega (arith, within)))

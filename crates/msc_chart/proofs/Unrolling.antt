-- The order of events in several rounds of a chart: it never leads back to an earlier round, and it
-- holds between two events also where both are moved. So do its cases, the enforced order and the
-- visual order, and closest races.
use Rattle.std.proofs.Common.{◌≡◌, ℕ, ◌+◌, ◌<◌, ◌≤◌, Bool, true, false, ap, subst, ◌∙◌}
use Rattle.msc_chart.specs.declared.queue.Queues.{Queues}
use Rattle.msc_chart.specs.Charts.{before, Visual}
use Rattle.msc_chart.specs.Drawings.{Drawing}
use Rattle.msc_chart.specs.Orders.{WiredChart, Enforced}
use Rattle.msc_chart.specs.Precedence.{Precedes, all_ready, none_ready}
use Rattle.msc_chart.specs.Precedence.Precedes.{drawn, awaited, sent, joined, queued}
use Rattle.msc_chart.specs.RoundLaws.{IsNextRace}
use Rattle.msc_chart.proofs.Drawn.{before_parts}
use Rattle.msc_chart.proofs.Precedence.{all_ready_is_visual, none_ready_is_enforced}
use Rattle.msc_chart.proofs.UnrolledCharts.{HasRounds, GoesOn, drawn_on, joined_on, partners_on, sent_on}
use Rattle.msc_chart.proofs.Moves.{IsHere, IsMoved, between, both_here, is_there, moved_both, partners_here, to, to_and_fro, to_controlled, to_drawn, to_input, to_line, to_output, to_partner, to_queue}

module _ {queues : Queues} {d : Drawing} where
  module _ {n : ℕ} {chart : WiredChart} (a : HasRounds queues d n chart) (ready : ℕ → Bool) (fifo : Bool) where
    -- nothing leads back
    pub precedes_on : (x y : ℕ) → Precedes chart ready fifo x y → GoesOn a x y
    precedes_on x y (drawn h c) = drawn_on a x y h
    precedes_on x y (awaited h i l) = drawn_on a x y h
    precedes_on x y (sent o is) = sent_on a x y o is
    precedes_on x y (joined {y = z} h k) = joined_on a x z y (precedes_on x z h) (precedes_on z y k)
    precedes_on x y (queued {s = s} {t = t} rule os ot same h p q l) = partners_on a s t x y (precedes_on s t h) p q

  module _ {n m : ℕ} {chart other : WiredChart} (a : HasRounds queues d n chart) (b : HasRounds queues d m other) (s t w : ℕ) (fits : t + w ≤ m)
      (ready : ℕ → Bool) (fifo : Bool) where
    -- what precedes another in rounds s up to s + w does so where both are moved, rule by rule
    pub precedes_moved : (x y : ℕ) → Precedes chart ready fifo x y → s ≤ a.round_at x → a.round_at y < s + w → Precedes other ready fifo (to a b s t x) (to a b s t y)
    precedes_moved x y (drawn h c) from below =
        let p = both_here a b s t w fits x y (drawn_on a x y h) from below in
        drawn (to_drawn a b s t w fits x y p.0 p.1 h) (to_controlled a b s t w fits y p.1 c)
    precedes_moved x y (awaited h i l) from below =
        let p = both_here a b s t w fits x y (drawn_on a x y h) from below in
        awaited (to_drawn a b s t w fits x y p.0 p.1 h) (to_input a b s t w fits y p.1 i) (ap ready (to_line a b s t w fits y p.1) ∙ l)
    precedes_moved x y (sent o is) from below =
        let p = both_here a b s t w fits x y (sent_on a x y o is) from below in
        sent (to_output a b s t w fits x p.0 o) (to_partner a b s t w fits x p.0 ∙ ap (to a b s t) is)
    precedes_moved x y (joined {y = z} h k) from below =
        let p = between a b s t w fits x z y (precedes_on a ready fifo x z h) (precedes_on a ready fifo z y k) from below in
        joined (precedes_moved x z h from p.1) (precedes_moved z y k p.0 below)
    precedes_moved x y (queued {s = o} {t = u} rule os ou same h p q l) from below =
        let on = precedes_on a ready fifo o u h in
        let rounds = partners_here a b s t w fits o u x y on p q from below in
        let here = both_here a b s t w fits o u on rounds.0 rounds.1 in
        let ends = both_here a b s t w fits x y (partners_on a o u x y on p q) from below in
        queued rule (to_output a b s t w fits o here.0 os) (to_output a b s t w fits u here.1 ou) (to_queue a b s t w fits o u here.0 here.1 os ou same)
        (precedes_moved o u h rounds.0 rounds.1) (to_partner a b s t w fits o here.0 ∙ ap (to a b s t) p) (to_partner a b s t w fits u here.1 ∙ ap (to a b s t) q)
        (ap ready (to_line a b s t w fits y ends.1) ∙ l)

module _ (queues : Queues) (d : Drawing) where
  -- so it is moved
  pub order_moved : (ready : ℕ → Bool) (fifo : Bool) → IsMoved queues d (λ chart. Precedes chart ready fifo)
  order_moved ready fifo n m chart other a b s t w fits back x y p q h = precedes_moved a b s t w fits ready fifo x y h p.from q.below

  -- and the enforced order is
  pub enforced_moved : IsMoved queues d Enforced
  enforced_moved n m chart other a b s t w fits back x y p q h =
      (none_ready_is_enforced other (to a b s t x) (to a b s t y)).0
      (order_moved none_ready true n m chart other a b s t w fits back x y p q ((none_ready_is_enforced chart x y).1 h))

  -- and the visual order
  pub visual_moved : IsMoved queues d (λ chart. Visual chart.events)
  visual_moved n m chart other a b s t w fits back x y p q h =
      (all_ready_is_visual other false (to a b s t x) (to a b s t y)).0
      (order_moved all_ready false n m chart other a b s t w fits back x y p q ((all_ready_is_visual chart false x y).1 h))

  -- and a closest race: what is drawn between both there is moved back
  pub next_race_moved : IsMoved queues d IsNextRace
  next_race_moved n m chart other a b s t w fits back x y p q race =
      let x-there = is_there a b s t w fits x p in
      let y-there = is_there a b s t w fits y q in (
        (
          to_drawn a b s t w fits x y p q race.0.0,
          λ h. race.0.1 ((moved_both queues d Enforced enforced_moved a b s t w fits back x y p q).1 h),
        ),
        λ z h k.
            let rounds = between b a t s w back (to a b s t x) z (to a b s t y) (drawn_on b (to a b s t x) z h) (drawn_on b z (to a b s t y) k) x-there.from y-there.below in
            let here : IsHere b t w z = record { within = (before_parts other.events (to a b s t x) z h).1; from = rounds.0; below = rounds.1 } in
            race.1 (to b a t s z)
            (subst (λ (v : ℕ). before chart.events v (to b a t s z) ≡ true) (to_and_fro a b s t w fits x p) (to_drawn b a t s w back (to a b s t x) z x-there here h))
            (subst (λ (v : ℕ). before chart.events (to b a t s z) v ≡ true) (to_and_fro a b s t w fits y q) (to_drawn b a t s w back z (to a b s t y) here y-there k)),
      )

-- What stands before another in the whole order in some rounds of a chart does so in as many rounds
-- of another, and never in an earlier round.
use Rattle.std.proofs.Common.{ℕ, ◌+◌, ◌<◌, ◌≤◌, Bool, false, ap, ◌∙◌}
use Rattle.msc_chart.specs.declared.queue.Queues.{Queues}
use Rattle.msc_chart.specs.Drawings.{Drawing}
use Rattle.msc_chart.specs.Orders.{WiredChart}
use Rattle.msc_chart.proofs.Moves.{between, both_here, partners_here, to, to_drawn, to_input, to_line, to_partner, to_queue_of_inputs}
use Rattle.msc_chart.proofs.UnrolledCharts.{HasRounds, GoesOn, drawn_on, joined_on, partners_on}
use Rattle.msc_chart.proofs.Unrolling.{precedes_moved, precedes_on}
use Rattle.msc_ready.specs.Finishing.{WholeOrder}
use Rattle.msc_ready.specs.Finishing.WholeOrder.{needed, in_turn, joined}

module _ {queues : Queues} {d : Drawing} (ready : ℕ → Bool) where
  module _ {n : ℕ} {chart : WiredChart} (a : HasRounds queues d n chart) where
    -- nothing leads back in the whole order
    pub whole_on : (x y : ℕ) → WholeOrder chart ready x y → GoesOn a x y
    whole_on x y (needed h) = precedes_on a ready false x y h
    whole_on x y (in_turn r u ir iu same h l p q) = partners_on a r u x y (drawn_on a r u h) p q
    whole_on x y (joined {y = z} h k) = joined_on a x z y (whole_on x z h) (whole_on z y k)

  -- from rounds s up to s + w of one chart to rounds t up to t + w of another
  module _ {n m : ℕ} {chart other : WiredChart} (a : HasRounds queues d n chart) (b : HasRounds queues d m other) (s t w : ℕ) (fits : t + w ≤ m) where
    -- what stands before another in these rounds does so where both are moved
    pub whole_moved : (x y : ℕ) → WholeOrder chart ready x y → s ≤ a.round_at x → a.round_at y < s + w → WholeOrder other ready (to a b s t x) (to a b s t y)
    whole_moved x y (needed h) from below = needed (precedes_moved a b s t w fits ready false x y h from below)
    whole_moved x y (in_turn r u ir iu same h l p q) from below =
        let rounds = partners_here a b s t w fits r u x y (drawn_on a r u h) p q from below in
        let here = both_here a b s t w fits r u (drawn_on a r u h) rounds.0 rounds.1 in
        in_turn (to a b s t r) (to a b s t u) (to_input a b s t w fits r here.0 ir) (to_input a b s t w fits u here.1 iu)
        (to_queue_of_inputs a b s t w fits r u here.0 here.1 ir iu same) (to_drawn a b s t w fits r u here.0 here.1 h)
        (ap ready (to_line a b s t w fits u here.1) ∙ l) (to_partner a b s t w fits r here.0 ∙ ap (to a b s t) p)
        (to_partner a b s t w fits u here.1 ∙ ap (to a b s t) q)
    whole_moved x y (joined {y = z} h k) from below =
        let p = between a b s t w fits x z y (whole_on a x z h) (whole_on a z y k) from below in
        joined (whole_moved x z h from p.1) (whole_moved z y k p.0 below)

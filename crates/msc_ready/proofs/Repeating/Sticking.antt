-- The blocked pairs of several rounds of a chart are told by two rounds.
use Rattle.std.proofs.Common.{◌≡◌, ℕ, zero, suc, ◌+◌, ◌-◌, ◌<◌, ◌≤◌, Bool, true, length, inl, inr, sym, ap, subst, ◌∙◌, arith}
use Rattle.msc_chart.specs.declared.queue.Queues.{Queues}
use Rattle.msc_chart.specs.Charts.{line, partner, is_input, before}
use Rattle.msc_chart.specs.Drawings.{Drawing}
use Rattle.msc_chart.specs.Orders.{WiredChart, queue}
use Rattle.msc_chart.specs.Precedence.{Precedes}
use Rattle.msc_chart.specs.Precedence.Precedes.{joined}
use Rattle.msc_chart.proofs.Drawn.{before_parts}
use Rattle.msc_chart.proofs.Moves.{IsMoved, moved_both, partner_here, to, to_drawn, to_input, to_line, to_partner, to_queue_of_inputs}
use Rattle.msc_chart.proofs.UnrolledCharts.{HasRounds, queue_in}
use Rattle.msc_chart.proofs.Unrolling.{order_moved}
use Rattle.msc_ready.specs.BlockedPairs.{IsBlockedPair, HasNoBlockedPair}
use Rattle.msc_ready.proofs.Repeating.UnrolledCharts.{input_at, message_known, output_in, output_of, queue_apart}

module _ {queues : Queues} {d : Drawing} (ready : ℕ → Bool) where
  -- a blocked pair is moved to a blocked pair
  pub blocked_pair_moved : IsMoved queues d (λ chart. IsBlockedPair chart ready)
  blocked_pair_moved n m chart other a b s t w fits back x y p q blocked_pair = record {
    drawn = to_drawn a b s t w fits x y p q blocked_pair.drawn;
    inputs = (to_input a b s t w fits x p blocked_pair.inputs.0, to_input a b s t w fits y q blocked_pair.inputs.1);
    one_queue = to_queue_of_inputs a b s t w fits x y p q blocked_pair.inputs.0 blocked_pair.inputs.1 blocked_pair.one_queue;
    line = ap ready (to_line a b s t w fits y q) ∙ blocked_pair.line;
    free = λ h.
        let outputs = subst (λ (z : ℕ). Precedes other ready true z (to a b s t (partner chart.events y))) (to_partner a b s t w fits x p)
        (subst (λ (z : ℕ). Precedes other ready true (partner other.events (to a b s t x)) z) (to_partner a b s t w fits y q) h) in
        blocked_pair.free ((moved_both queues d (λ c. Precedes c ready true) (order_moved queues d ready true) a b s t w fits back (partner chart.events x) (partner chart.events y)
        (partner_here a b s t w fits x p) (partner_here a b s t w fits y q)).1 outputs);
  }

  module _ {n : ℕ} {chart : WiredChart} (a : HasRounds queues d n chart) where
    -- an event in the next round
    abbrev next : ℕ → ℕ
    next x = a.number_at (a.event_at x) (a.round_at x + 1)

    -- what is known of it
    record IsNext (x : ℕ) : Type 0 where
      pub within : next x < length chart.events
      pub event : a.event_at (next x) ≡ a.event_at x
      pub round : a.round_at (next x) ≡ a.round_at x + 1
      pub line : line chart.events (next x) ≡ line chart.events x

    -- it is an event on the same line
    next_is : (x : ℕ) → x < length chart.events → a.round_at x + 1 < n → IsNext x
    next_is x known more =
        let e = a.event_in x known in
        let within = a.number_in (a.event_at x) (a.round_at x + 1) e more in
        let event = a.event_is (a.event_at x) (a.round_at x + 1) e more in
        record {
          within = within;
          event = event;
          round = a.round_is (a.event_at x) (a.round_at x + 1) e more;
          line = a.line_is (next x) within ∙ ap (line d.events) event ∙ sym (a.line_is x known);
        }

    -- Where a blocked pair leads over more rounds than one, the input of the next round in place of
    -- its first event is of the same queue, and drawn between both.
    record IsMiddle (x y : ℕ) : Type 0 where
      pub after : before chart.events x (next x) ≡ true
      pub above : before chart.events (next x) y ≡ true
      pub input : is_input chart.events (next x) ≡ true
      pub first : queue chart x ≡ queue chart (next x)
      pub second : queue chart (next x) ≡ queue chart y

    middle : (x y : ℕ) → IsBlockedPair chart ready x y → a.round_at x + 1 < a.round_at y → IsMiddle x y
    middle x y blocked_pair far =
        let p = before_parts chart.events x y blocked_pair.drawn in
        let more : a.round_at x + 1 < n = (let r = a.round_in y p.1 in omega arith) in
        let z = next_is x p.0 more in
        let up = a.above x y blocked_pair.drawn in
        let step = z.round in
        let ix = blocked_pair.inputs.0 in
        let iy = blocked_pair.inputs.1 in
        let iz = a.input (next x) z.within ∙ ap (is_input d.events) z.event ∙ input_at a x ix in
        let qx = (output_of a x ix).1 in
        let qy = (output_of a y iy).1 in
        let qz = (output_of a (next x) iz).1 ∙ ap (λ (e : ℕ). queue_in queues d (partner d.events e) (a.round_at (next x))) z.event in
        let apart = queue_apart queues d a.accepted (partner d.events (a.event_at x)) (partner d.events (a.event_at y)) (a.round_at x) (a.round_at y)
        (output_in a x ix) (output_in a y iy) (message_known a x ix) (message_known a y iy) (sym qx ∙ blocked_pair.one_queue ∙ qy) (omega (arith, far)) in
        record {
          after = a.drawn_so x (next x) p.0 z.within (sym (ap (line d.events) z.event), inl (omega (arith, step)));
          above = a.drawn_so (next x) y z.within p.1 (ap (line d.events) z.event ∙ up.0, inl (omega (arith, step, far)));
          input = iz;
          first = qx ∙ (apart (a.round_at x) (a.round_at (next x))).1 ∙ sym qz;
          second = qz ∙ (apart (a.round_at (next x)) (a.round_at y)).0 ∙ sym qy;
        }

    module _ {other : WiredChart} (b : HasRounds queues d 2 other) where
      module _ (none : HasNoBlockedPair other ready) where
        -- where two rounds never stick, there is no blocked pair within a round or between a round
        -- and the next
        near : (w x y : ℕ) → w ≤ 2 → a.round_at x + w ≤ n → a.round_at x ≤ a.round_at y → a.round_at y < a.round_at x + w → IsBlockedPair chart ready x y → ⊥
        near w x y few fits up below blocked_pair =
            let p = before_parts chart.events x y blocked_pair.drawn in
            none (to a b (a.round_at x) 0 x) (to a b (a.round_at x) 0 y)
            (blocked_pair_moved n 2 chart other a b (a.round_at x) 0 w (omega arith) fits x y
            (record { within = p.0; from = omega arith; below = omega arith }) (record { within = p.1; from = up; below = below }) blocked_pair)

        -- nor over more rounds: the outputs of an input in rounds that follow each other stand in
        -- an order
        far : (g x y : ℕ) → IsBlockedPair chart ready x y → a.round_at y ≡ (a.round_at x + 1) + g → ⊥
        far zero x y blocked_pair apart =
            let r = a.round_in y (before_parts chart.events x y blocked_pair.drawn).1 in
            near 2 x y (omega arith) (omega arith) (omega arith) (omega arith) blocked_pair
        far (suc g) x y blocked_pair apart =
            let p = before_parts chart.events x y blocked_pair.drawn in
            let r = a.round_in y p.1 in
            let z = next_is x p.0 (omega arith) in
            let mid = middle x y blocked_pair (omega arith) in
            let step = z.round in
            near 2 x (next x) (omega arith) (omega arith) (omega (arith, step)) (omega (arith, step)) (record {
              drawn = mid.after;
              inputs = (blocked_pair.inputs.0, mid.input);
              one_queue = mid.first;
              line = ap ready (z.line ∙ p.2) ∙ blocked_pair.line;
              free = λ h. far g (next x) y (record {
                drawn = mid.above;
                inputs = (mid.input, blocked_pair.inputs.1);
                one_queue = mid.second;
                line = blocked_pair.line;
                free = λ k. blocked_pair.free (joined h k);
              }) (omega (arith, step, apart));
            })

        -- so n rounds never stick
        pub none_more : HasNoBlockedPair chart ready
        none_more x y blocked_pair =
            let p = before_parts chart.events x y blocked_pair.drawn in
            let r = a.round_in y p.1 in
            elim (a.above x y blocked_pair.drawn).1 [
              | inl lt ↦ far (a.round_at y - (a.round_at x + 1)) x y blocked_pair (omega arith)
              | inr same ↦ let one = same.0 in near 1 x y (omega arith) (omega arith) (omega arith) (omega arith) blocked_pair
            ]

      -- where n rounds never stick, two or more, two do not
      pub none_of_two : 2 ≤ n → HasNoBlockedPair chart ready → HasNoBlockedPair other ready
      none_of_two some none x y blocked_pair =
          let p = before_parts other.events x y blocked_pair.drawn in
          let r = b.round_in x p.0 in
          let q = b.round_in y p.1 in
          none (to b a 0 0 x) (to b a 0 0 y)
          (blocked_pair_moved 2 n other chart b a 0 0 2 some (omega arith) x y
          (record { within = p.0; from = omega arith; below = omega arith }) (record { within = p.1; from = omega arith; below = omega arith }) blocked_pair)

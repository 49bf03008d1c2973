-- Tables between the caused and the enforced order.
use Rattle.std.proofs.Common.{◌≡◌, ℕ, ◌<◌, Bool, true, ◌&&◌, ◌||◌, inl, inr, eqb, List, length, refl, sym, ◌∙◌, subst}
use Rattle.std.proofs.lemmas.Bool.{eqb-true, and_parts, or_cases}
use Rattle.msc_chart.specs.declared.event.ChartEvent.{ChartEvent}
use Rattle.msc_chart.specs.Charts.{partner, is_output, Visual, IsMatched}
use Rattle.msc_chart.specs.Charts.Visual.{seen, passed, linked}
use Rattle.msc_chart.specs.Orders.{WiredChart, queue, IsWired, Enforced, IsEnforcedOrder}
use Rattle.msc_chart.specs.Orders.Enforced.{drawn, sent, joined, queued}
use Rattle.msc_chart.proofs.Drawn.{before_parts, output_parts, input_parts, partner_of_output, partner_of_input}
use Rattle.msc_order.specs.Caused.{Led, Caused, InQueueOrder}
use Rattle.msc_order.specs.Closing.{IsTestOf, IsBetween, Keeps, HasQueueOf, HasSeen, IsOutputOf}
use Rattle.msc_order.specs.Caused.Led.{led, carried, chained}
use Rattle.msc_order.proofs.Once.{caused_enforced, once}

-- the visual order is what leads on to any event
pub visual_led : (events : List ChartEvent) (x y : ℕ) → Visual events x y → Led events true x y
visual_led events x y (seen b) = led b refl
visual_led events x y (passed o p) = carried o p
visual_led events x y (linked {y = m} h k) = chained (visual_led events x m h) (visual_led events m y k)

-- what leads on to any event is in the visual order, and so is what is caused
pub led_visual : (events : List ChartEvent) (inputs : Bool) (x y : ℕ) → Led events inputs x y → Visual events x y
led_visual events inputs x y (led b o) = seen b
led_visual events inputs x y (carried o p) = passed o p
led_visual events inputs x y (chained {y = m} h k) = linked (led_visual events inputs x m h) (led_visual events inputs m y k)

-- the enforced order is between events
pub enforced_below : (chart : WiredChart) → IsMatched chart.events → (x y : ℕ) → Enforced chart x y → (x < length chart.events) × (y < length chart.events)
enforced_below chart matched x y (drawn b o) = let p = before_parts chart.events x y b in (p.0, p.1)
enforced_below chart matched x y (sent o p) =
    let below = (output_parts chart.events x o).0 in (below, subst (λ (z : ℕ). z < length chart.events) p (matched.in_range x below))
enforced_below chart matched x y (joined {y = m} h k) = ((enforced_below chart matched x m h).0, (enforced_below chart matched m y k).1)
enforced_below chart matched x y (queued {s = s} {t = t} os ot same h p q) =
    let s_in = (output_parts chart.events s os).0 in
    let t_in = (output_parts chart.events t ot).0 in
    (subst (λ (z : ℕ). z < length chart.events) p (matched.in_range s s_in), subst (λ (z : ℕ). z < length chart.events) q (matched.in_range t t_in))

module _ (chart : WiredChart) where
  -- the caused order is between itself and the enforced order
  pub between_start : (test : ℕ → ℕ → Bool) → IsTestOf (Caused chart.events) test → IsBetween chart test
  between_start test exact = record {
    caused = exact.complete;
    enforced = λ x y h. caused_enforced chart x y (exact.sound x y h);
    outputs = λ x y o h. exact.sound x y h;
    onward = λ x y z h k. exact.complete x z (chained (exact.sound x y h) k);
  }

  -- what an output's input has before it stays
  pub queue_kept : (test now : ℕ → ℕ → Bool) (s : ℕ) → Keeps test now → HasQueueOf chart test s → HasQueueOf chart now s
  queue_kept test now s kept has c own after = kept (partner chart.events s) (partner chart.events c) (has c own after)

  module _ (wired : IsWired chart) where
    -- an output of the queue of s that is caused after s has its input in queue order after that of s
    pub in_order : (s c : ℕ) → is_output chart.events s ≡ true → IsOutputOf chart (queue chart s) c → Caused chart.events s c
        → InQueueOrder chart (partner chart.events s) (partner chart.events c)
    in_order s c o own after =
        let s_in = (output_parts chart.events s o).0 in
        let c_in = (output_parts chart.events c own.output).0 in
        record {
          first = partner_of_output chart.events wired.matched s o;
          second = partner_of_output chart.events wired.matched c own.output;
          one_queue = wired.one_queue s s_in ∙ sym own.one_queue ∙ sym (wired.one_queue c c_in);
          outputs = rw (wired.matched.to_and_fro s s_in, wired.matched.to_and_fro c c_in) after;
        }

    -- a table between that has the rule of queues for each output is the enforced order
    pub enforced_all : (test : ℕ → ℕ → Bool) → IsBetween chart test
        → ((s : ℕ) → is_output chart.events s ≡ true → HasQueueOf chart test s) → IsEnforcedOrder chart test
    enforced_all test between queues = record {
      holds = λ x y x_below y_below h. between.enforced x y h;
      complete = λ x y h. elim (once chart wired x y h) [
        | inl c ↦ between.caused x y c
        | inr more ↦
            let q = more.1 in
            let x_in = (input_parts chart.events x q.first).0 in
            let u_in = (input_parts chart.events more.0 q.second).0 in
            let own : IsOutputOf chart (queue chart (partner chart.events x)) (partner chart.events more.0) = record {
              output = partner_of_input chart.events wired.matched more.0 q.second;
              one_queue = wired.one_queue more.0 u_in ∙ sym q.one_queue ∙ sym (wired.one_queue x x_in);
            } in
            let there = queues (partner chart.events x) (partner_of_input chart.events wired.matched x q.first) (partner chart.events more.0) own q.outputs in
            let first : test x more.0 ≡ true = rw (wired.matched.to_and_fro x x_in, wired.matched.to_and_fro more.0 u_in) at there in
            elim more.2 [
              | inl same ↦ subst (λ (w : ℕ). test x w ≡ true) same first
              | inr after ↦ between.onward x more.0 y first after
            ]
      ];
    }

  -- one output more was looked at
  pub seen_next : (test now masks new : ℕ → ℕ → Bool) (q s : ℕ) → IsOutputOf chart q s → Keeps test now → HasQueueOf chart now s → HasSeen chart test masks
      → ((x y : ℕ) → new x y ≡ (masks x y || (eqb x q && eqb y s))) → HasSeen chart now new
  seen_next test now masks new q s own kept has shown is p c h =
      elim (or_cases (masks p c) _ (sym (is p c) ∙ h)) [
        | inl old ↦ let known = shown p c old in (known.0, queue_kept test now c kept known.1)
        | inr more ↦
            let both = and_parts _ _ more in
            let same_q = eqb-true p q both.0 in
            let same_s = eqb-true c s both.1 in (
              subst (λ (w : ℕ). IsOutputOf chart w c) (sym same_q) (subst (λ (w : ℕ). IsOutputOf chart q w) (sym same_s) own),
              subst (λ (w : ℕ). HasQueueOf chart now w) (sym same_s) has,
            )
      ]

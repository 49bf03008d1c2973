-- Segments of events: which events share one, and which begin one.
use Rattle.std.proofs.Common.{◌≡◌, ℕ, ◌-◌, ◌<◌, ◌≤◌, Bool, true, false, ◌&&◌, not, List, length, nat_lt, refl, sym, subst, arith}
use Rattle.std.proofs.lemmas.Bool.{and_from, and_right, false≢true, false_from_ne_true, lt-ltb, not_from_false}
use Rattle.msc_chart.specs.declared.event.ChartEvent.{ChartEvent}
use Rattle.msc_chart.specs.Charts.{line, IsInTextOrder}
use Rattle.msc_chart.proofs.ListLemmas.{by_test, clash}
use Rattle.msc_picture.specs.Rows.{begins_segment, share_segment}
use Rattle.msc_picture.proofs.MarkLemmas.{share_from, share_on, share_parts}

module _ (events : List ChartEvent) where
  -- sharing a segment has no direction
  pub share_back : (e f : ℕ) → share_segment events e f ≡ true → share_segment events f e ≡ true
  share_back e f h =
      let p = share_parts events e f h in share_from events f e (sym p.0) (sym p.1)

  -- an event is of its own segment
  pub share_own : (e : ℕ) → share_segment events e e ≡ true
  share_own e = share_from events e e refl refl

  -- what stands between two events of a segment is of it
  share_between : IsInTextOrder events → (x y z : ℕ) → x ≤ y → y ≤ z → z < length events
      → share_segment events x z ≡ true → share_segment events y z ≡ true
  share_between order x y z low high below h =
      let p = share_parts events x z h in
      let upper : line events x ≤ line events y = order.lines x y low (omega arith) in
      let lower : line events y ≤ line events z = order.lines y z high below in
      let first : line events x ≡ line events y = omega (arith, p.0, upper, lower) in
      let second : line events y ≡ line events z = omega (arith, p.0, upper, lower) in
      let above = order.rising x y low (omega arith) first in
      let under = order.rising y z high below second in
      share_from events y z second (omega (arith, p.1, above, under))

  -- an event shares no segment with one behind the beginning of a later segment
  pub apart : IsInTextOrder events → (y b x : ℕ) → y < b → b ≤ x → x < length events
      → begins_segment events b ≡ true → share_segment events y x ≡ false
  apart order y b x less within below begins = false_from_ne_true _ (λ shared.
      let low : y ≤ b - 1 = omega arith in
      let high : b - 1 ≤ x = omega arith in
      let before = share_between order y (b - 1) x low high below shared in
      let here = share_between order y b x (omega arith) within below shared in
      let both : (nat_lt 0 b && share_segment events (b - 1) b) ≡ true =
      and_from _ _ (lt-ltb 0 b (omega arith))
      (share_on events (b - 1) x b before (share_back b x here)) in
      let f : not true ≡ true = subst (λ (c : Bool). not c ≡ true) both begins in
      absurd (false≢true f))

  -- what begins no segment is of that of the event above
  pub of_above : (e : ℕ) → begins_segment events e ≡ false → share_segment events (e - 1) e ≡ true
  of_above e h = by_test (share_segment events (e - 1) e) (λ yes. yes)
      (λ no. clash (not_from_false _ (and_right (nat_lt 0 e) (share_segment events (e - 1) e) no)) h)

-- The events of several rounds of a chart, and what holds between two of them: within a round what
-- holds in the chart, and over some rounds what holds over as many.
use Rattle.std.proofs.Common.{◌≡◌, ◌↔◌, ℕ, ◌+◌, ◌-◌, ◌<◌, ◌≤◌, true, length, ap, subst, arith}
use Rattle.msc_chart.specs.declared.queue.Queues.{Queues}
use Rattle.msc_chart.specs.Charts.{before}
use Rattle.msc_chart.specs.Drawings.{Drawing, IsAccepted}
use Rattle.msc_chart.specs.Orders.{WiredChart, wired}
use Rattle.msc_chart.specs.Rounds.{number_of, event_of, round_of, repeated}
use Rattle.msc_chart.specs.RoundLaws.{in_round, IsIn}
use Rattle.msc_chart.proofs.EventNumbers.{number_in, event_number, round_number}
use Rattle.msc_chart.proofs.RoundEvents.{in_events}
use Rattle.msc_chart.proofs.UnrolledCharts.{IsAbove, GoesOn}
use Rattle.msc_chart.proofs.UnrolledRounds.{one_round, rounds_of}
use Rattle.msc_chart.proofs.Moves.{IsHere, IsMoved, moved_both, to}

module _ (d : Drawing) (accepted : IsAccepted d) where
  -- an event of n rounds has its event and its round
  pub event_here : (n e r : ℕ) → IsIn n d e r → event_of n d.events (in_round n d e r) ≡ e
  event_here n e r is = event_number d.events accepted.in_text_order n e r is.0 is.1

  pub round_here : (n e r : ℕ) → IsIn n d e r → round_of n d.events (in_round n d e r) ≡ r
  round_here n e r is = round_number d.events accepted.in_text_order n e r is.0 is.1

  -- and is one of its events
  pub number_here : (n e r : ℕ) → IsIn n d e r → in_round n d e r < length (repeated n d).events
  number_here n e r is = in_events n (length d.messages) d.events (in_round n d e r) (number_in d.events accepted.in_text_order n e r is.0 is.1)

module _ (queues : Queues) (d : Drawing) (accepted : IsAccepted d) where
  -- what is drawn before another in n rounds is in an earlier round, or drawn so in the chart
  pub above_here : (n e r f q : ℕ) → IsIn n d e r → IsIn n d f q → before (repeated n d).events (in_round n d e r) (in_round n d f q) ≡ true → IsAbove d e r f q
  above_here n e r f q a b h =
      let up = (rounds_of queues d accepted n).above (in_round n d e r) (in_round n d f q) h in
      rw (event_here d accepted n e r a, event_here d accepted n f q b, round_here d accepted n e r a, round_here d accepted n f q b) at up

  -- and the other way
  pub drawn_here : (n e r f q : ℕ) → IsIn n d e r → IsIn n d f q → IsAbove d e r f q → before (repeated n d).events (in_round n d e r) (in_round n d f q) ≡ true
  drawn_here n e r f q a b up =
      (rounds_of queues d accepted n).drawn_so (in_round n d e r) (in_round n d f q) (number_here d accepted n e r a) (number_here d accepted n f q b)
      (rw (event_here d accepted n e r a, event_here d accepted n f q b, round_here d accepted n e r a, round_here d accepted n f q b) up)

  -- any event of n rounds that is drawn before or after one is such a number
  pub event_round : (n k : ℕ) → k < length (repeated n d).events → IsIn n d (event_of n d.events k) (round_of n d.events k) × (in_round n d (event_of n d.events k) (round_of n d.events k) ≡ k)
  event_round n k within =
      let sheets = rounds_of queues d accepted n in
      ((sheets.event_in k within, sheets.round_in k within), sheets.back k within)

  -- what goes on leads to no earlier round
  pub on_here : (n e r f q : ℕ) → IsIn n d e r → IsIn n d f q → GoesOn (rounds_of queues d accepted n) (in_round n d e r) (in_round n d f q) → r ≤ q
  on_here n e r f q a b goes = let on = goes.2 in omega (arith, on, round_here d accepted n e r a, round_here d accepted n f q b)

  -- an event in round s + r is one of w rounds from s on
  in_rounds : (n s w e r : ℕ) → IsIn n d e (s + r) → r < w → IsHere (rounds_of queues d accepted n) s w (in_round n d e (s + r))
  in_rounds n s w e r is below =
      let round = round_here d accepted n e (s + r) is in
      record { within = number_here d accepted n e (s + r) is; from = omega (arith, round); below = omega (arith, round, below) }

  -- and is itself in round r where these are moved to the first rounds
  to_first : (n m s e r : ℕ) → IsIn n d e (s + r) → to (rounds_of queues d accepted n) (rounds_of queues d accepted m) s 0 (in_round n d e (s + r)) ≡ in_round m d e r
  to_first n m s e r is =
      let same : 0 + ((s + r) - s) ≡ r = omega arith in
      rw (event_here d accepted n e (s + r) is, round_here d accepted n e (s + r) is) (ap (number_of m d.events e) same)

  -- an event in round r is one of that round
  in_one : (n e r : ℕ) → IsIn n d e r → IsHere (rounds_of queues d accepted n) r 1 (in_round n d e r)
  in_one n e r is =
      let round = round_here d accepted n e r is in
      record { within = number_here d accepted n e r is; from = omega (arith, round); below = omega (arith, round) }

  -- what holds of two numbers holds of equal ones
  same_pair : (P : ℕ → ℕ → Type 0) (X : Type 0) {x y v w : ℕ} → x ≡ v → y ≡ w → X ↔ P x y → X ↔ P v w
  same_pair P X {x} {y} {v} {w} p q both =
      subst (λ (z : ℕ). X ↔ P z w) p (subst (λ (z : ℕ). X ↔ P x z) q both)

  -- a relation that is moved along
  module _ (R : WiredChart → ℕ → ℕ → Type 0) (moved : IsMoved queues d R) where
    -- holds within a round exactly where it holds in the chart
    pub within_round : (n e f r : ℕ) → IsIn n d e r → IsIn n d f r
        → R (wired queues (repeated n d)) (in_round n d e r) (in_round n d f r) ↔ R (wired queues d) e f
    within_round n e f r a b =
        let back : r + 1 ≤ n = (let h = a.1 in omega arith) in
        same_pair (R (wired queues d)) (R (wired queues (repeated n d)) (in_round n d e r) (in_round n d f r))
        (event_here d accepted n e r a) (event_here d accepted n f r b)
        (moved_both queues d R moved (rounds_of queues d accepted n) (one_round queues d accepted) r 0 1 (omega arith) back
        (in_round n d e r) (in_round n d f r) (in_one n e r a) (in_one n f r b))

    -- and over some rounds exactly where it holds over as many
    pub over_rounds : (n m s e r f q : ℕ) → s + m ≤ n → IsIn m d e r → IsIn m d f q
        → R (wired queues (repeated n d)) (in_round n d e (s + r)) (in_round n d f (s + q)) ↔ R (wired queues (repeated m d)) (in_round m d e r) (in_round m d f q)
    over_rounds n m s e r f q fits a b =
        let here : IsIn n d e (s + r) = (a.0, let h = a.1 in omega arith) in
        let there : IsIn n d f (s + q) = (b.0, let h = b.1 in omega arith) in
        same_pair (R (wired queues (repeated m d))) (R (wired queues (repeated n d)) (in_round n d e (s + r)) (in_round n d f (s + q)))
        (to_first n m s e r here) (to_first n m s f q there)
        (moved_both queues d R moved (rounds_of queues d accepted n) (rounds_of queues d accepted m) s 0 m (omega arith) fits
        (in_round n d e (s + r)) (in_round n d f (s + q)) (in_rounds n s m e r here a.1) (in_rounds n s m f q there b.1))

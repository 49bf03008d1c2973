-- The chart of the sample is one that is accepted.
use Rattle.std.proofs.Common.{◌≡◌, ℕ, zero, suc, ◌+◌, ◌*◌, ◌<◌, true, false, refl, subst, arith}
use Rattle.std.specs.Prelude.{count_by, take}
use Rattle.msc_chart.specs.Charts.{acts, line, segment, kind, message, action, partner, is_output, is_input, is_local, Visual, IsMatched, IsInTextOrder, AreOnLines}
use Rattle.msc_chart.specs.Charts.Visual.{seen, passed, linked}
use Rattle.msc_chart.specs.Events.{events_of, acts_of, instances_of}
use Rattle.msc_chart.specs.Drawings.{IsAccepted, HasMessages, HasActions, chart_events, chart_of, output_of}
use Rattle.msc_chart.proofs.ListLemmas.{clash}
use Rattle.msc_chart.proofs.Drawn.{before_parts, output_parts, local_parts}
use Rattle.msc_chart.specs.Samples.{own_message}
use Rattle.msc_execution.specs.Samples.{own_chart}

-- it is the chart of its draft
pub is_drawn : chart_of own_message ≡ own_chart
unfolding chart_events events_of acts_of instances_of
is_drawn = refl

-- what holds of each of five
pub five : (P : ℕ → Type 0) → P 0 → P 1 → P 2 → P 3 → P 4 → (e : ℕ) → e < 5 → P e
five P a b c d e zero lt = a
five P a b c d e (suc zero) lt = b
five P a b c d e (suc (suc zero)) lt = c
five P a b c d e (suc (suc (suc zero))) lt = d
five P a b c d e (suc (suc (suc (suc zero)))) lt = e
five P a b c d e (suc (suc (suc (suc (suc n))))) lt = absurd (omega arith)

-- what holds of both
two_of : (P : ℕ → Type 0) → P 0 → P 1 → (m : ℕ) → m < 2 → P m
two_of P a b zero lt = a
two_of P a b (suc zero) lt = b
two_of P a b (suc (suc n)) lt = absurd (omega arith)

-- an event's number tells its line and its segment
numbers : (e : ℕ) → e < 5
    → (3 * line own_chart.events e + segment own_chart.events e ≡ e) × (line own_chart.events e < 2)
    × (segment own_chart.events e < 3)
unfolding line segment
numbers =
    five (λ e. (3 * line own_chart.events e + segment own_chart.events e ≡ e) × (line own_chart.events e < 2)
    × (segment own_chart.events e < 3))
    (refl, omega arith, omega arith) (refl, omega arith, omega arith)
    (refl, omega arith, omega arith)
    (refl, omega arith, omega arith) (refl, omega arith, omega arith)

-- segments rise from an output to its input
sent_rises : (s : ℕ) → s < 5 → is_output own_chart.events s ≡ true
    → segment own_chart.events s < segment own_chart.events (partner own_chart.events s)
unfolding is_output kind partner segment
sent_rises =
    five (λ s. is_output own_chart.events s ≡ true
    → segment own_chart.events s < segment own_chart.events (partner own_chart.events s))
    (λ o. omega arith) (λ o. clash o refl) (λ o. clash o refl) (λ o. clash o refl)
    (λ o. omega arith)

-- so they rise along the visual order
rises : (x y : ℕ) → Visual own_chart.events x y → segment own_chart.events x < segment own_chart.events y
rises x y (seen h) = (before_parts own_chart.events x y h).3
rises x y (passed o p) =
    subst (λ (z : ℕ). segment own_chart.events x < segment own_chart.events z) p
    (sent_rises x (output_parts own_chart.events x o).0 o)
rises x y (linked {y = z} a b) = let p = rises x z a in let q = rises z y b in omega arith

-- both lines are lines of the chart
on_lines : AreOnLines 2 own_chart.events
on_lines = record {
  on_line = λ e lt. (numbers e lt).1;
  few = λ e lt. let n = numbers e lt in omega (arith, n.2);
}

-- events are numbered line by line, and down each line
in_text_order : IsInTextOrder own_chart.events
in_text_order = record {
  lines = λ x y le below. let a = numbers x (omega arith) in let b = numbers y below in
      omega (arith, a.0, b.0, a.2, b.2);
  rising = λ x y le below same. let a = numbers x (omega arith) in let b = numbers y below in
      omega (arith, a.0, b.0, same);
}

-- partners lead to and fro
matched : IsMatched own_chart.events
unfolding partner is_output is_input is_local kind
matched = record {
  in_range =
      five (λ e. partner own_chart.events e < 5) (omega arith) (omega arith) (omega arith) (omega arith)
      (omega arith);
  to_and_fro = five (λ e. partner own_chart.events (partner own_chart.events e) ≡ e) refl refl refl refl refl;
  other_kind =
      five (λ e. is_output own_chart.events (partner own_chart.events e)
      ≡ is_input own_chart.events e) refl refl refl refl refl;
  own = λ e local. five (λ x. is_local own_chart.events x ≡ true → partner own_chart.events x ≡ x)
      (λ l. clash l refl) (λ l. clash l refl) (λ l. clash l refl) (λ l. refl) (λ l. clash l refl)
      e (local_parts own_chart.events e local).0 local;
}

-- each message has its two events
has_messages : HasMessages own_chart
unfolding partner is_output is_input is_local kind message output_of
has_messages = record {
  output = two_of (λ m. is_output own_chart.events (output_of own_chart m) ≡ true) refl refl;
  own = two_of (λ m. message own_chart.events (output_of own_chart m) ≡ m) refl refl;
  known = five (λ e. is_local own_chart.events e ≡ false → message own_chart.events e < 2)
      (λ a. omega arith) (λ a. omega arith) (λ a. omega arith) (λ a. omega arith)
      (λ a. omega arith);
  back = λ e o. five (λ x. is_output own_chart.events x ≡ true → output_of own_chart (message own_chart.events x) ≡ x)
      (λ h. refl) (λ h. clash h refl) (λ h. clash h refl) (λ h. clash h refl) (λ h. refl)
      e (output_parts own_chart.events e o).0 o;
  shared =
      five (λ e. message own_chart.events (partner own_chart.events e)
      ≡ message own_chart.events e) refl refl refl refl refl;
}

-- the action has its local event
has_actions : HasActions own_chart
unfolding is_local kind action
has_actions = record {
  each = refl;
  own = λ e l. five (λ x. is_local own_chart.events x ≡ true
      → action own_chart.events x ≡ count_by (λ y. acts y.kind) (take x own_chart.events))
      (λ h. clash h refl) (λ h. clash h refl) (λ h. clash h refl) (λ h. refl) (λ h. clash h refl)
      e (local_parts own_chart.events e l).0 l;
  known = λ e l. five (λ x. is_local own_chart.events x ≡ true → action own_chart.events x < 1)
      (λ h. clash h refl) (λ h. clash h refl) (λ h. clash h refl) (λ h. omega arith)
      (λ h. clash h refl)
      e (local_parts own_chart.events e l).0 l;
}

-- all of that
pub is_accepted : IsAccepted own_chart
is_accepted = record {
  few_instances = omega arith;
  few_messages = omega arith;
  few_actions = omega arith;
  few_events = omega arith;
  on_lines = on_lines;
  in_text_order = in_text_order;
  matched = matched;
  acyclic = λ e below v. let r = rises e e v in omega arith;
  has_messages = has_messages;
  has_actions = has_actions;
}

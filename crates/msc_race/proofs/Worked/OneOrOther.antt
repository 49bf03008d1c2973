-- Two races that no run reverses together.
use Rattle.std.proofs.Common.{◌≡◌, ◌≢◌, ℕ, true, List, refl, sym, ◌∙◌, subst}
use Rattle.std.proofs.lemmas.Bool.{eqb-false, false_from_ne_true}
use Rattle.msc_chart.specs.declared.queue.LinkKind.{LinkKind}
use Rattle.msc_chart.specs.declared.queue.LinkKind.TheVariants.{Pair, Mailbox, Single}
use Rattle.msc_chart.specs.Lists.{occurs, until, IsFirst}
use Rattle.msc_chart.specs.Events.{events_of, acts_of, instances_of}
use Rattle.msc_chart.specs.Charts.{line, segment, kind, partner, message, is_output, is_input, is_local, is_controlled, before}
use Rattle.msc_chart.specs.Drawings.{chart_events}
use Rattle.msc_chart.specs.Orders.{WiredChart, IsWired, queue_number, sender_at, receiver_at, queue}
use Rattle.msc_chart.specs.Orders.Enforced.{drawn, sent}
use Rattle.msc_chart.specs.Runs.{Run, MayCome, Reverses, is_waiting, state}
use Rattle.msc_race.specs.Samples.{crossed, mailboxes, NoRunReversesBoth}
use Rattle.msc_race.proofs.Shared.{clash, step_at, until-within, first_occurs, before_first_fails}
use Rattle.msc_race.proofs.Runs.Standing.{until_swapped, until_until, stands_trans}
use Rattle.msc_race.proofs.Runs.EventLemmas.{output_below, partner_of_output}
use Rattle.msc_chart.proofs.Waiting.{waiting_from}
use Rattle.msc_race.proofs.Runs.Respects.{kept}
use Rattle.msc_race.proofs.Worked.RunTests.{wired_from}
use Rattle.msc_chart.proofs.ListLemmas.{until-self}

-- Two pairs of which the earlier of each stands before the later of the other are not reversed
-- together: in the list the four would stand in a ring.
no_ring : (xs : List ℕ) (a b c d : ℕ) → b ≢ a → d ≢ c → Reverses xs a b → Reverses xs c d
    → occurs (until xs b) c ≡ true → occurs (until xs d) a ≡ true → ⊥
no_ring xs a b c d ba dc first second cb ad =
    let b_a = until_swapped xs a b ba first.0 first.1 in
    let d_c = until_swapped xs c d dc second.0 second.1 in
    let c_a = stands_trans xs c b a cb b_a in
    let a_c = stands_trans xs a d c ad d_c in
    clash (stands_trans xs c a c c_a a_c) (until-self xs c)

module _ (chart : WiredChart) (is_wired : IsWired chart) (events : List ℕ) (run : Run chart events) where
  -- A run that reverses the inputs of two messages of a queue reverses their outputs, since what stands
  -- before the first of a queue is out of it.
  outputs_reversed : (s t : ℕ) → is_output chart.events s ≡ true → is_output chart.events t ≡ true
      → queue chart s ≡ queue chart t
      → Reverses events (partner chart.events s) (partner chart.events t) → Reverses events s t
  outputs_reversed s t os ot same reverses =
      let u : ℕ = partner chart.events t in
      let t_below = output_below chart.events t ot in
      let at_u = step_at (MayCome chart) events u run reverses.0 in
      let past : List ℕ = until events u in
      let input = partner_of_output chart.events is_wired.matched t ot in
      let first : IsFirst (state chart (queue chart u) past) (partner chart.events u) = at_u.1.input input in
      let back = is_wired.matched.to_and_fro t t_below in
      let first_t : IsFirst (state chart (queue chart u) past) t = rw back at first in
      let there = (first_occurs _ past t first_t).0 in
      let queues = same ∙ sym (is_wired.one_queue t t_below) in
      let waits = waiting_from chart (queue chart u) past s os queues reverses.1 in (
        until-within events u t there,
        false_from_ne_true _ (λ h.
            let earlier = subst (λ (l : List ℕ). occurs l s ≡ true) (until_until events t u there) h in
            clash waits (before_first_fails (is_waiting chart (queue chart u) past) past t s first_t earlier)),
      )

-- two messages that cross are not both taken before the other is sent
pub crossing_one : (kind : LinkKind) → NoRunReversesBoth (crossed kind) (0, 1) (2, 3)
unfolding is_output is_input is_local is_controlled before line segment kind partner message queue queue_number sender_at receiver_at chart_events events_of acts_of instances_of
crossing_one kind events run first second =
    let is_wired : IsWired (crossed kind) = crossing_wired kind in
    no_ring events 0 1 2 3 (eqb-false 1 0 refl) (eqb-false 3 2 refl) first second
    (kept (crossed kind) is_wired events run 2 1 (sent refl refl) first.0)
    (kept (crossed kind) is_wired events run 0 3 (sent refl refl) second.0)
  where
    -- the chart is wired with each kind
    crossing_wired : (kind : LinkKind) → IsWired (crossed kind)
    crossing_wired Pair = wired_from _ refl
    crossing_wired Mailbox = wired_from _ refl
    crossing_wired Single = wired_from _ refl

-- the messages of two mailboxes do not both come in the other order
pub mailboxes_one : NoRunReversesBoth mailboxes (4, 5) (6, 7)
unfolding is_output is_input is_local is_controlled before line segment kind partner message queue queue_number sender_at receiver_at chart_events events_of acts_of instances_of
mailboxes_one events run first second =
    let is_wired : IsWired mailboxes = wired_from _ refl in
    let sent_q = outputs_reversed mailboxes is_wired events run 0 3 refl refl refl first in
    let sent_z = outputs_reversed mailboxes is_wired events run 2 1 refl refl refl second in
    no_ring events 0 3 2 1 (eqb-false 3 0 refl) (eqb-false 1 2 refl) sent_q sent_z
    (kept mailboxes is_wired events run 2 3 (drawn refl refl) sent_q.0)
    (kept mailboxes is_wired events run 0 1 (drawn refl refl) sent_z.0)

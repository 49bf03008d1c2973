-- From a run inside a set of events that can go first, another event of the set may come.
use Rattle.std.proofs.Common.{◌≡◌, ℕ, ◌<◌, Bool, true, false, ◌&&◌, not, ◌⊎◌, inl, inr, List, [], length, sym, ◌∙◌, subst}
use Rattle.std.proofs.lemmas.Bool.{and_parts, and_from, not-true, not_from_false, false_from_ne_true}
use Rattle.std.proofs.Math.Nat.{le_refl}
use Rattle.msc_chart.specs.Lists.{occurs, Steps}
use Rattle.msc_chart.specs.Charts.{partner, is_input, is_controlled, before}
use Rattle.msc_chart.specs.Orders.{WiredChart, IsWired, queue}
use Rattle.msc_chart.specs.Runs.{MayCome, is_waiting}
use Rattle.msc_chart.specs.Precedence.{none_ready}
use Rattle.msc_race.proofs.Shared.{by_test, clash, count_below, find_below, descend, step_at, first_occurs, before_first_fails, filter-first}
use Rattle.msc_race.proofs.Runs.EventLemmas.{output_below, input_below, controlled_or_input, controlled_no_input, not_both, before_parts, partner_of_output, partner_of_input}
use Rattle.msc_chart.proofs.Waiting.{waiting_from, waiting_parts}
use Rattle.msc_chart.proofs.Left.{is_left, left_from, left_parts}
use Rattle.msc_race.proofs.Runs.Needed.{is_needed, needed_drawn, needed_sent}
use Rattle.msc_race.proofs.Runs.Inside.{is_held, is_passed_on, held_from, held_parts, passed_on_from, passed_on_parts, passed_on_decided, MayComeInside, SomeLeft}

-- A set of events that can go first: it holds what has to come before its events, in an order R
-- without cycles in which no held output stands before an output of its queue that is passed on; and
-- held outputs have one queue.
pub record CanGoFirst (chart : WiredChart) (inside : ℕ → Bool) (R : ℕ → ℕ → Type 0) : Type 0 where
  pub base : (x y : ℕ) → is_needed chart none_ready x y ≡ true → R x y
  pub trans : (x y z : ℕ) → R x y → R y z → R x z
  pub irreflexive : (x : ℕ) → x < length chart.events → R x x → ⊥
  pub drawn_inside : (x s : ℕ) → before chart.events x s ≡ true → is_controlled chart.events s ≡ true
      → inside s ≡ true → inside x ≡ true
  pub sent_inside : (r : ℕ) → is_input chart.events r ≡ true → inside r ≡ true
      → inside (partner chart.events r) ≡ true
  pub held_after : (s t : ℕ) → is_held chart inside s ≡ true → is_passed_on chart inside t ≡ true
      → queue chart s ≡ queue chart t → R s t → ⊥
  pub held_together : (s t : ℕ) → is_held chart inside s ≡ true → is_held chart inside t ≡ true
      → queue chart s ≡ queue chart t

-- the messages of the set that were sent are taken: no input of the set is left whose output occurred
abbrev HasNoneInFlight : WiredChart → (ℕ → Bool) → List ℕ → Type 0
HasNoneInFlight chart inside past =
    (r : ℕ) → is_input chart.events r ≡ true → inside r ≡ true → occurs past r ≡ false
    → occurs past (partner chart.events r) ≡ false

module _ (chart : WiredChart) (is_wired : IsWired chart) (inside : ℕ → Bool) (R : ℕ → ℕ → Type 0)
    (first : CanGoFirst chart inside R) (past : List ℕ) where
  -- An input r of the set is left whose output has occurred. Then the first message of its queue may
  -- be taken: its output s0 is not held, since a held output would have waited for the output of r,
  -- which is passed on and would stand before the first of the queue.
  take_first : Steps (MayComeInside chart inside) [] past
      → (r : ℕ) → is_input chart.events r ≡ true → inside r ≡ true → occurs past r ≡ false
      → occurs past (partner chart.events r) ≡ true
      → (x : ℕ) × MayComeInside chart inside past x
  take_first steps r input member out sent =
      let below = input_below chart.events r input in
      let s : ℕ = partner chart.events r in
      let o = partner_of_input chart.events is_wired.matched r input in
      let back : partner chart.events s ≡ r = is_wired.matched.to_and_fro r below in
      let q : ℕ = queue chart r in
      let waits : is_waiting chart q past s ≡ true =
      waiting_from chart q past s o (is_wired.one_queue r below) (rw back out) in
      let found = filter-first (is_waiting chart q past) past s sent waits in
      let s0 : ℕ = found.0 in
      let there = first_occurs (is_waiting chart q past) past s0 found.1 in
      let facts = waiting_parts chart q past s0 there.1 in
      let s0_below = output_below chart.events s0 facts.0 in
      let at_s0 = step_at (MayComeInside chart inside) past s0 steps there.0 in
      let i0 = partner_of_output chart.events is_wired.matched s0 facts.0 in
      by_test (inside (partner chart.events s0))
      (λ taken_inside.
      let queues : queue chart (partner chart.events s0) ≡ q = is_wired.one_queue s0 s0_below ∙ facts.1 in
      let to_s0 : partner chart.events (partner chart.events s0) ≡ s0 = is_wired.matched.to_and_fro s0 s0_below in (
        partner chart.events s0,
        record {
          may = record {
            event = is_wired.matched.in_range s0 s0_below;
            new = facts.2;
            controlled = λ c0. absurd (controlled_no_input chart.events _ c0 i0);
            input = λ i. rw (queues, to_s0) found.1;
          };
          member = taken_inside;
          patient = λ held. absurd (not_both chart.events _ (held_parts chart inside _ held).0 i0);
        },
      ))
      (λ outside.
      let held = held_from chart inside s0 facts.0 at_s0.1.member outside in
      let passed = passed_on_from chart inside s o (first.sent_inside r input member) (rw back member) in
      let queues : queue chart s ≡ queue chart s0 = is_wired.one_queue r below ∙ sym facts.1 in
      let earlier = at_s0.1.patient held s passed queues in
      clash waits (before_first_fails (is_waiting chart q past) past s0 s found.1 earlier))

  -- Where the set is quiet, what is left and has nothing left that it needs is controlled, and may come.
  ready : HasNoneInFlight chart inside past
      → (x : ℕ) → x < length chart.events → is_left inside past x ≡ true
      → ((y : ℕ) → y < length chart.events → is_left inside past y ≡ true → is_needed chart none_ready y x ≡ false)
      → MayCome chart past x
  ready quiet x below left least =
      let x_left = left_parts inside past x left in
      elim (controlled_or_input chart.events x below) [
        | inl o ↦ record {
          event = below;
          new = x_left.1;
          controlled = λ again y drawn. by_test (occurs past y) (λ there. there)
              (λ out.
              let y_left = left_from inside past y (first.drawn_inside y x drawn o x_left.0) out in
              clash (needed_drawn chart none_ready y x drawn o) (least y (before_parts chart.events y x drawn).0 y_left));
          input = λ i. absurd (controlled_no_input chart.events x o i);
        }
        | inr i ↦
            let s : ℕ = partner chart.events x in
            let o = partner_of_input chart.events is_wired.matched x i in
            let s_left = left_from inside past s (first.sent_inside x i x_left.0) (quiet x i x_left.0 x_left.1) in
            clash (needed_sent chart none_ready s x o (is_wired.matched.to_and_fro x below))
            (least s (is_wired.matched.in_range x below) s_left)
      ]

  -- From any event that is left one comes back to such an event.
  earliest : (g : ℕ) → g < length chart.events → is_left inside past g ≡ true
      → (x : ℕ) × (x < length chart.events) × (is_left inside past x ≡ true) × ((x ≡ g) ⊎ R x g)
      × ((y : ℕ) → y < length chart.events → is_left inside past y ≡ true → is_needed chart none_ready y x ≡ false)
  earliest g below left =
      let fuel : ℕ = count_below (is_left inside past) (length chart.events) in
      descend (length chart.events) (is_needed chart none_ready) R first.base first.trans first.irreflexive
      fuel (is_left inside past) (le_refl fuel) g below left

  -- Where the set is quiet, some event of it that is left may come: if the earliest before g is held
  -- and waits for t, then the earliest before t is not held.
  go_on : HasNoneInFlight chart inside past → (g : ℕ) → g < length chart.events
      → is_left inside past g ≡ true → (x : ℕ) × MayComeInside chart inside past x
  go_on quiet g below left =
      let d = earliest g below left in
      let x : ℕ = d.0 in
      let x_may = ready quiet x d.1 d.2 d.4 in
      let x_member = (left_parts inside past x d.2).0 in
      by_test (is_held chart inside x)
      (λ held.
      elim (passed_on_decided chart inside past x) [
        | inr all ↦ (x, record { may = x_may; member = x_member; patient = λ again. all })
        | inl found ↦
            let t : ℕ = found.0 in
            let t_parts = passed_on_parts chart inside t found.1 in
            let e = earliest t (output_below chart.events t t_parts.0) (left_from inside past t t_parts.1 found.3) in
            let y : ℕ = e.0 in
            let not_held : is_held chart inside y ≡ true → ⊥ = λ y_held.
            elim e.3 [
              | inl same ↦
                  let out = (held_parts chart inside y y_held).2 in
                  clash t_parts.2 (subst (λ (z : ℕ). inside (partner chart.events z) ≡ false) same out)
              | inr r ↦ first.held_after y t y_held found.1 (first.held_together y x y_held held ∙ sym found.2) r
            ] in (
              y,
              record {
                may = ready quiet y e.1 e.2 e.4;
                member = (left_parts inside past y e.2).0;
                patient = λ y_held. absurd (not_held y_held);
              },
            )
      ])
      (λ free. (x, record { may = x_may; member = x_member; patient = λ held. clash held free }))

  -- While an event of the set is left, some event of the set may come.
  pub progress : Steps (MayComeInside chart inside) [] past → SomeLeft chart inside past
      → (x : ℕ) × MayComeInside chart inside past x
  progress steps some =
      let is_sent : ℕ → Bool =
      λ r. (is_input chart.events r && inside r) && (not (occurs past r) && occurs past (partner chart.events r)) in
      elim (find_below is_sent (length chart.events)) [
        | inl found ↦
            let both = and_parts _ _ found.2 in
            let own = and_parts _ _ both.0 in
            let sent = and_parts _ _ both.1 in
            take_first steps found.0 own.0 own.1 (not-true _ sent.0) sent.1
        | inr none ↦
            go_on (λ r i member out. false_from_ne_true _ (λ sent.
            let both = and_from _ _ (and_from _ _ i member) (and_from _ _ (not_from_false _ out) sent) in
            clash both (none r (input_below chart.events r i))))
            some.0 some.1 (left_from inside past some.0 some.2 some.3)
      ]

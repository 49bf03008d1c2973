-- The linear order of a chart, round by round, is one of all rounds, since the visual order never
-- goes back to an earlier round, and within a round is that of the chart.
use Rattle.std.proofs.Common.{◌≡◌, ℕ, ◌*◌, ◌<◌, true, false, eqb, List, [], ◌∷◌, ◌++◌, length, map, inl, inr, sym, ap, subst, ◌∙◌, append_assoc, arith}
use Rattle.std.proofs.Math.Bool.{or-false}
use Rattle.std.proofs.lemmas.Bool.{cases_lt, or_cases, eqb-true}
use Rattle.std.proofs.lemmas.List.{append-nil, map-append}
use Rattle.msc_chart.specs.declared.queue.LinkKind.TheVariants.{Single}
use Rattle.msc_chart.specs.declared.queue.Queues.TheVariants.{Uniform}
use Rattle.msc_chart.specs.Lists.{occurs, Steps}
use Rattle.msc_chart.specs.Charts.{Visual, Follows, IsLinearOrder}
use Rattle.msc_chart.specs.Drawings.{Drawing, IsAccepted}
use Rattle.msc_chart.specs.Orders.{wired}
use Rattle.msc_chart.specs.Precedence.{all_ready}
use Rattle.msc_chart.specs.Rounds.{number_of, event_of, round_of, repeated, two_rounds}
use Rattle.msc_chart.proofs.ListLemmas.{by_test, clash, occurs-append, occurs-head, occurs-tail, occurs-left, occurs-right, Steps-append, step_at}
use Rattle.msc_chart.proofs.EventNumbers.{event_in, round_in, number_in, event_number, round_number, number_event}
use Rattle.msc_chart.proofs.RoundEvents.{events_in, in_events}
use Rattle.msc_chart.proofs.Precedence.{all_ready_is_visual}
use Rattle.msc_chart.proofs.UnrolledRounds.{rounds_of}
use Rattle.msc_chart.proofs.RoundRaces.{within_round}
use Rattle.msc_chart.proofs.Unrolling.{precedes_on, visual_moved}

-- what occurs in a list occurs in it where each is replaced
occurs_map : (f : ℕ → ℕ) (xs : List ℕ) (e : ℕ) → occurs xs e ≡ true → occurs (map f xs) (f e) ≡ true
unfolding occurs
occurs_map f [] e h = cc
occurs_map f (x ∷ xs) e h =
    elim (or_cases (eqb x e) (occurs xs e) h) [
      | inl same ↦ subst (λ (y : ℕ). occurs (f x ∷ map f xs) (f y) ≡ true) (eqb-true x e same) (occurs-head (f x) (map f xs))
      | inr later ↦ occurs-tail (f x) (map f xs) (f e) (occurs_map f xs e later)
    ]

-- what occurs in a list of one is that one
only_one : (a x : ℕ) → occurs (a ∷ []) x ≡ true → a ≡ x
unfolding occurs
only_one a x h = eqb-true a x (sym (or-false (eqb a x)) ∙ h)

-- and back
map_occurs : (f : ℕ → ℕ) (xs : List ℕ) (z : ℕ) → occurs (map f xs) z ≡ true → (e : ℕ) × (occurs xs e ≡ true) × (f e ≡ z)
unfolding occurs
map_occurs f [] z h = cc
map_occurs f (x ∷ xs) z h =
    elim (or_cases (eqb (f x) z) (occurs (map f xs) z) h) [
      | inl same ↦ (x, occurs-head x xs, eqb-true (f x) z same)
      | inr later ↦ let r = map_occurs f xs z later in (r.0, occurs-tail x xs r.0 r.1, r.2)
    ]

module _ (n : ℕ) (d : Drawing) (accepted : IsAccepted d) (r : ℕ) (round : r < n) where
  -- these are the events of earlier rounds, all of them
  pub record AreEarlier (done : List ℕ) : Type 0 where
    pub all : (x : ℕ) → x < n * length d.events → round_of n d.events x < r → occurs done x ≡ true
    pub only : (x : ℕ) → occurs done x ≡ true → round_of n d.events x < r

  -- an event of this round may follow those of earlier rounds and what stands before it in this one
  round_follows : (done past : List ℕ) → AreEarlier done → ((x : ℕ) → occurs past x ≡ true → x < length d.events)
      → (e : ℕ) → Follows d.events past e → Follows (repeated n d).events (done ++ map (λ x. number_of n d.events x r) past) (number_of n d.events e r)
  round_follows done past earlier known e follows =
      let number = λ (x : ℕ). number_of n d.events x r in
      let e-in = follows.event in
      let there = number_in d.events accepted.in_text_order n e r e-in round in
      let is_event = event_number d.events accepted.in_text_order n e r e-in round in
      let is_round = round_number d.events accepted.in_text_order n e r e-in round in
      record {
        event = in_events n (length d.messages) d.events (number e) there;
        new = by_test (occurs (done ++ map number past) (number e))
            (λ again. elim (or_cases (occurs done (number e)) (occurs (map number past) (number e)) (sym (occurs-append done (map number past) (number e)) ∙ again)) [
              | inl before ↦ let low = earlier.only (number e) before in absurd (omega (arith, low, is_round))
              | inr now ↦
                  let p = map_occurs number past (number e) now in
                  let same : p.0 ≡ e = sym (event_number d.events accepted.in_text_order n p.0 r (known p.0 p.1) round) ∙ ap (event_of n d.events) p.2 ∙ is_event in
                  absurd (clash (ap (occurs past) (sym same) ∙ p.1) follows.new)
            ])
            (λ new. new);
        precedes = λ x v.
            let rounds = rounds_of (Uniform Single) d accepted n in
            let on = precedes_on rounds all_ready false x (number e) ((all_ready_is_visual (wired (Uniform Single) (repeated n d)) false x (number e)).1 v) in
            let low = on.2 in
            let from = events_in n (length d.messages) d.events x on.0 in
            elim (cases_lt (round_of n d.events x) r) [
              | inl before ↦ occurs-left done (map number past) x (earlier.all x from before)
              | inr now ↦
                  let same : round_of n d.events x ≡ r = omega (arith, low, is_round, now) in
                  let is : number (event_of n d.events x) ≡ x = ap (λ (q : ℕ). number_of n d.events (event_of n d.events x) q) (sym same) ∙ number_event d.events accepted.in_text_order n x from in
                  let first = (within_round (Uniform Single) d accepted (λ chart. Visual chart.events) (visual_moved (Uniform Single) d) n (event_of n d.events x) e r (event_in d.events accepted.in_text_order n x from, round) (e-in, round)).0
                  (subst (λ (y : ℕ). Visual (repeated n d).events y (number e)) (sym is) v) in
                  let stands = occurs_map number past (event_of n d.events x) (follows.precedes (event_of n d.events x) first) in
                  occurs-right done (map number past) x (subst (λ (y : ℕ). occurs (map number past) y ≡ true) is stands)
            ];
      }

  -- so a list of steps is one in this round
  pub round_steps : (done past order : List ℕ) → AreEarlier done → ((x : ℕ) → occurs past x ≡ true → x < length d.events) → Steps (Follows d.events) past order
      → Steps (Follows (repeated n d).events) (done ++ map (λ x. number_of n d.events x r) past) (map (λ x. number_of n d.events x r) order)
  round_steps done past [] earlier known steps = tt
  round_steps done past (e ∷ es) earlier known steps =
      let number = λ (x : ℕ). number_of n d.events x r in
      let rest = round_steps done (past ++ e ∷ []) es earlier
      (λ x h. elim (or_cases (occurs past x) (occurs (e ∷ []) x) (sym (occurs-append past (e ∷ []) x) ∙ h)) [
        | inl before ↦ known x before
        | inr last ↦ subst (λ (y : ℕ). y < length d.events) (only_one e x last) steps.0.event
      ]) steps.1 in
      let grown : done ++ map number (past ++ e ∷ []) ≡ (done ++ map number past) ++ number e ∷ [] =
      ap (λ l. done ++ l) (map-append number past (e ∷ [])) ∙ sym (append_assoc done (map number past) (number e ∷ [])) in
      (round_follows done past earlier known e steps.0, subst (λ l. Steps (Follows (repeated n d).events) l (map number es)) grown rest)

  -- an event of this round occurs where the chart's d.events do
  pub round_holds : (order : List ℕ) → IsLinearOrder d.events order → (k : ℕ) → k < n * length d.events → round_of n d.events k ≡ r
      → occurs (map (λ x. number_of n d.events x r) order) k ≡ true
  round_holds order linear k within same =
      let number = λ (x : ℕ). number_of n d.events x r in
      let is : number (event_of n d.events k) ≡ k = ap (λ (q : ℕ). number_of n d.events (event_of n d.events k) q) (sym same) ∙ number_event d.events accepted.in_text_order n k within in
      subst (λ (y : ℕ). occurs (map number order) y ≡ true) is
      (occurs_map number order (event_of n d.events k) (linear.whole (event_of n d.events k) (event_in d.events accepted.in_text_order n k within)))

  -- and where it occurs it is in this round
  pub holds_round : (order : List ℕ) → IsLinearOrder d.events order → (k : ℕ) → occurs (map (λ x. number_of n d.events x r) order) k ≡ true → round_of n d.events k ≡ r
  holds_round order linear k h =
      let p = map_occurs (λ x. number_of n d.events x r) order k h in
      let e-in = (step_at (Follows d.events) order p.0 linear.steps p.1).1.event in
      ap (round_of n d.events) (sym p.2) ∙ round_number d.events accepted.in_text_order n p.0 r e-in round

-- Two rounds have a linear order: that of the chart in the first, and then in the second.
module _ (d : Drawing) (accepted : IsAccepted d) (order : List ℕ) (linear : IsLinearOrder d.events order) where
  -- before the first round there is none
  none_earlier : AreEarlier 2 d accepted 0 (omega arith) []
  unfolding occurs
  none_earlier = record { all = λ x within below. absurd (omega arith); only = λ x h. cc }

  -- before the second there is the first
  first_earlier : AreEarlier 2 d accepted 1 (omega arith) (map (λ x. number_of 2 d.events x 0) order)
  first_earlier = record {
    all = λ x within below. round_holds 2 d accepted 0 (omega arith) order linear x within (omega arith);
    only = λ x h. let is = holds_round 2 d accepted 0 (omega arith) order linear x h in omega arith;
  }

  -- nothing occurs in the empty list
  none_known : (x : ℕ) → occurs [] x ≡ true → x < length d.events
  unfolding occurs
  none_known x h = cc

  pub two_rounds_linear : IsLinearOrder (two_rounds d).events (map (λ x. number_of 2 d.events x 0) order ++ map (λ x. number_of 2 d.events x 1) order)
  two_rounds_linear =
      let one = map (λ x. number_of 2 d.events x 0) order in
      let two = map (λ x. number_of 2 d.events x 1) order in
      let second = round_steps 2 d accepted 1 (omega arith) one [] order first_earlier none_known linear.steps in
      record {
        steps = Steps-append (Follows (two_rounds d).events) [] one two
            (round_steps 2 d accepted 0 (omega arith) [] [] order none_earlier none_known linear.steps)
            (rw append-nil at second);
        whole = λ k within.
            let k-in = events_in 2 (length d.messages) d.events k within in
            let few = round_in d.events accepted.in_text_order 2 k k-in in
            elim (cases_lt (round_of 2 d.events k) 1) [
              | inl first ↦ occurs-left one two k (round_holds 2 d accepted 0 (omega arith) order linear k k-in (omega arith))
              | inr later ↦ occurs-right one two k (round_holds 2 d accepted 1 (omega arith) order linear k k-in (omega arith))
            ];
      }

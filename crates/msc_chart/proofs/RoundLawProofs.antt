-- The laws of several rounds, from what is enforced and drawn in them.
use Rattle.std.proofs.Common.{◌≡◌, ◌↔◌, ℕ, zero, suc, ◌+◌, ◌-◌, ◌<◌, ◌≤◌, ◌⊎◌, Bool, true, false, length, inl, inr, refl, sym, subst, ◌∙◌, arith}
use Rattle.std.proofs.lemmas.Bool.{cases_lt}
use Rattle.msc_chart.specs.declared.queue.Queues.{Queues}
use Rattle.msc_chart.specs.declared.queue.LinkKind.TheVariants.{Single}
use Rattle.msc_chart.specs.declared.queue.Queues.TheVariants.{Uniform}
use Rattle.msc_chart.specs.Charts.{line, before, Visual}
use Rattle.msc_chart.specs.Drawings.{Drawing, IsAccepted}
use Rattle.msc_chart.specs.Orders.{wired, Enforced, IsRace}
use Rattle.msc_chart.specs.Orders.Enforced.{joined}
use Rattle.msc_chart.specs.Precedence.{Precedes, all_ready, none_ready}
use Rattle.msc_chart.specs.Rounds.{event_of, round_of, repeated, two_rounds}
use Rattle.msc_chart.specs.RoundLaws.{in_round, IsIn, NoWayBack, OrderWithinARound, OrderOfSomeRounds, NoVisualWayBack, VisualOrderWithinARound, VisualOrderOfSomeRounds, Passes, RoundsByTwo, ManyRoundsPassAsTwo, NoneIsBetween, TwoRoundsPass, IsNextRace, ClosestRacesByTwo, NextOverTwoRounds}
use Rattle.msc_chart.proofs.Drawn.{before_parts}
use Rattle.msc_chart.proofs.Precedence.{all_ready_is_visual, none_ready_is_enforced}
use Rattle.msc_chart.proofs.UnrolledCharts.{IsAbove}
use Rattle.msc_chart.proofs.UnrolledRounds.{rounds_of}
use Rattle.msc_chart.proofs.Unrolling.{enforced_moved, next_race_moved, precedes_on, visual_moved}
use Rattle.msc_chart.proofs.RoundRaces.{above_here, drawn_here, event_round, on_here, over_rounds, within_round}

-- nothing leads back in the order
pub order_back : (queues : Queues) (n : ℕ) (d : Drawing) (accepted : IsAccepted d) (ready : ℕ → Bool) (fifo : Bool) (e r f q : ℕ)
    → IsIn n d e r → IsIn n d f q → Precedes (wired queues (repeated n d)) ready fifo (in_round n d e r) (in_round n d f q) → r ≤ q
order_back queues n d accepted ready fifo e r f q a b h =
    on_here queues d accepted n e r f q a b (precedes_on (rounds_of queues d accepted n) ready fifo (in_round n d e r) (in_round n d f q) h)

-- nor in the enforced order
pub no_way_back : NoWayBack
no_way_back queues n d e r f q accepted a b h =
    order_back queues n d accepted none_ready true e r f q a b ((none_ready_is_enforced (wired queues (repeated n d)) (in_round n d e r) (in_round n d f q)).1 h)

-- nor in the visual order, in which the architecture takes no part
pub no_visual_way_back : NoVisualWayBack
no_visual_way_back n d e r f q accepted a b h =
    order_back (Uniform Single) n d accepted all_ready false e r f q a b ((all_ready_is_visual (wired (Uniform Single) (repeated n d)) false (in_round n d e r) (in_round n d f q)).1 h)

-- order within a round is that of the chart alone
pub order_within_a_round : OrderWithinARound
order_within_a_round queues n d e f r accepted a b = within_round queues d accepted Enforced (enforced_moved queues d) n e f r a b

-- and over some rounds that of as many
pub order_of_some_rounds : OrderOfSomeRounds
order_of_some_rounds queues n m s d e r f q accepted fits a b = over_rounds queues d accepted Enforced (enforced_moved queues d) n m s e r f q fits a b

-- and so is the visual order
pub visual_order_within_a_round : VisualOrderWithinARound
visual_order_within_a_round n d e f r accepted a b = within_round (Uniform Single) d accepted (λ chart. Visual chart.events) (visual_moved (Uniform Single) d) n e f r a b

pub visual_order_of_some_rounds : VisualOrderOfSomeRounds
visual_order_of_some_rounds n m s d e r f q accepted fits a b = over_rounds (Uniform Single) d accepted (λ chart. Visual chart.events) (visual_moved (Uniform Single) d) n m s e r f q fits a b

module _ (queues : Queues) (d : Drawing) (accepted : IsAccepted d) where
  -- x and y are not kept from being enforced
  abbrev Kept : ℕ → ℕ → ℕ → Type 0
  Kept n x y = (Enforced (wired queues (repeated n d)) x y → ⊥) → ⊥

  module _ (passes : Passes (wired queues (two_rounds d))) where
    -- where two rounds pass, what is drawn over two rounds that follow each other is enforced
    next_kept : (n e r f q : ℕ) → IsIn n d e r → IsIn n d f q → q ≡ r + 1 → line d.events e ≡ line d.events f → Kept n (in_round n d e r) (in_round n d f q)
    next_kept n e r f q a b next on refuted =
        let first : IsIn 2 d e 0 = (a.0, omega arith) in
        let second : IsIn 2 d f 1 = (b.0, omega arith) in
        let fits : r + 2 ≤ n = (let h = b.1 in omega arith) in
        passes (in_round 2 d e 0) (in_round 2 d f 1) (
          drawn_here queues d accepted 2 e 0 f 1 first second (on, inl (omega arith)),
          λ h.
              let there = (order_of_some_rounds queues n 2 r d e 0 f 1 accepted fits first second).1 h in
              let zero_more : r + 0 ≡ r = omega arith in
              refuted (subst (λ (k : ℕ). Enforced (wired queues (repeated n d)) (in_round n d e k) (in_round n d f q)) zero_more
              (subst (λ (k : ℕ). Enforced (wired queues (repeated n d)) (in_round n d e (r + 0)) (in_round n d f k)) (sym next) there)),
        )

    -- and so is what is drawn over more rounds
    later_kept : (g n e r f q : ℕ) → IsIn n d e r → IsIn n d f q → q ≡ (r + 1) + g → line d.events e ≡ line d.events f → Kept n (in_round n d e r) (in_round n d f q)
    later_kept zero n e r f q a b far on refuted = next_kept n e r f q a b (omega arith) on refuted
    later_kept (suc g) n e r f q a b far on refuted =
        let between : IsIn n d e (r + 1) = (a.0, let h = b.1 in omega arith) in
        next_kept n e r e (r + 1) a between refl refl
        (λ h. later_kept g n e (r + 1) f q between b (omega arith) on (λ k. refuted (joined h k)))

    -- and so is what is drawn within a round
    within_kept : (n e r f : ℕ) → IsIn n d e r → IsIn n d f r → before d.events e f ≡ true → Kept n (in_round n d e r) (in_round n d f r)
    within_kept n e r f a b h refuted =
        let first : IsIn 2 d e 0 = (a.0, omega arith) in
        let second : IsIn 2 d f 0 = (b.0, omega arith) in
        passes (in_round 2 d e 0) (in_round 2 d f 0) (
          drawn_here queues d accepted 2 e 0 f 0 first second ((before_parts d.events e f h).2, inr (refl, h)),
          λ k. refuted ((order_within_a_round queues n d e f r accepted a b).1 ((order_within_a_round queues 2 d e f 0 accepted first second).0 k)),
        )

    -- so n rounds pass
    rounds_pass : (n : ℕ) → Passes (wired queues (repeated n d))
    rounds_pass n x y race =
        let p = before_parts (repeated n d).events x y race.0 in
        let a = event_round queues d accepted n x p.0 in
        let b = event_round queues d accepted n y p.1 in
        let e = event_of n d.events x in
        let r = round_of n d.events x in
        let f = event_of n d.events y in
        let q = round_of n d.events y in
        let drawn = subst (λ (k : ℕ). before (repeated n d).events k (in_round n d f q) ≡ true) (sym a.1) (subst (λ (k : ℕ). before (repeated n d).events x k ≡ true) (sym b.1) race.0) in
        let up = above_here queues d accepted n e r f q a.0 b.0 drawn in
        let refuted : Enforced (wired queues (repeated n d)) (in_round n d e r) (in_round n d f q) → ⊥ =
        λ h. race.1 (subst (λ (k : ℕ). Enforced (wired queues (repeated n d)) k y) a.1 (subst (λ (k : ℕ). Enforced (wired queues (repeated n d)) (in_round n d e r) k) b.1 h)) in
        elim up.1 [
          | inl lt ↦ later_kept (q - (r + 1)) n e r f q a.0 b.0 (omega arith) up.0 refuted
          | inr same ↦
              let one : IsIn n d f r = (b.0.0, a.0.1) in
              within_kept n e r f a.0 one same.1 (λ h. refuted (subst (λ (k : ℕ). Enforced (wired queues (repeated n d)) (in_round n d e r) (in_round n d f k)) same.0 h))
        ]

-- n rounds pass for every n exactly where two do
pub rounds_by_two : RoundsByTwo
rounds_by_two queues d accepted = (λ all. all 2, λ passes n. rounds_pass queues d accepted passes n)

module _ (queues : Queues) (d : Drawing) (accepted : IsAccepted d) (x y : ℕ) (race : IsRace (wired queues (two_rounds d)) x y) where
  -- the events of a race of two rounds, and their rounds
  parts : (x < length (two_rounds d).events) × (y < length (two_rounds d).events)
  parts = let p = before_parts (two_rounds d).events x y race.0 in (p.0, p.1)

  one : IsIn 2 d (event_of 2 d.events x) (round_of 2 d.events x) × (in_round 2 d (event_of 2 d.events x) (round_of 2 d.events x) ≡ x)
  one = event_round queues d accepted 2 x parts.0

  other : IsIn 2 d (event_of 2 d.events y) (round_of 2 d.events y) × (in_round 2 d (event_of 2 d.events y) (round_of 2 d.events y) ≡ y)
  other = event_round queues d accepted 2 y parts.1

  -- so it is a race by these
  named : IsRace (wired queues (two_rounds d)) (in_round 2 d (event_of 2 d.events x) (round_of 2 d.events x)) (in_round 2 d (event_of 2 d.events y) (round_of 2 d.events y))
  named = rw (one.1, other.1) race

  above : IsAbove d (event_of 2 d.events x) (round_of 2 d.events x) (event_of 2 d.events y) (round_of 2 d.events y)
  above = above_here queues d accepted 2 (event_of 2 d.events x) (round_of 2 d.events x) (event_of 2 d.events y) (round_of 2 d.events y) one.0 other.0 named.0

  -- it is one of the first two of many rounds
  of_many : (n : ℕ) → 2 ≤ n → Passes (wired queues (repeated n d)) → ⊥
  of_many n many passes =
      let e = event_of 2 d.events x in
      let r = round_of 2 d.events x in
      let f = event_of 2 d.events y in
      let q = round_of 2 d.events y in
      let here : IsIn n d e r = (one.0.0, let h = one.0.1 in omega arith) in
      let there : IsIn n d f q = (other.0.0, let h = other.0.1 in omega arith) in
      passes (in_round n d e r) (in_round n d f q) (
        drawn_here queues d accepted n e r f q here there above,
        λ h.
            let first : 0 + r ≡ r = omega arith in
            let second : 0 + q ≡ q = omega arith in
            named.1 ((order_of_some_rounds queues n 2 0 d e r f q accepted (omega (arith, many)) one.0 other.0).0 (rw (first, second) h)),
      )

  -- it is a race of the chart, or between the rounds
  of_one : Passes (wired queues d) → NoneIsBetween queues d → ⊥
  of_one passes none = elim above.1 [
    | inl lt ↦
        let first : round_of 2 d.events x ≡ 0 = (let h = other.0.1 in omega arith) in
        let second : round_of 2 d.events y ≡ 1 = (let h = other.0.1 in omega arith) in
        none (event_of 2 d.events x) (event_of 2 d.events y) one.0.0 other.0.0 (rw (first, second) at named)
    | inr same ↦ passes (event_of 2 d.events x) (event_of 2 d.events y) (
      same.1,
      λ h. named.1 (subst (λ (k : ℕ). Enforced (wired queues (two_rounds d)) (in_round 2 d (event_of 2 d.events x) (round_of 2 d.events x)) (in_round 2 d (event_of 2 d.events y) k)) same.0
          ((order_within_a_round queues 2 d (event_of 2 d.events x) (event_of 2 d.events y) (round_of 2 d.events x) accepted one.0 (other.0.0, one.0.1)).1 h)),
    )
  ]

-- each number of rounds from two on passes exactly where two do
pub many_rounds_pass_as_two : ManyRoundsPassAsTwo
many_rounds_pass_as_two queues d accepted n many = (
  λ passes x y race. of_many queues d accepted x y race n many passes,
  λ passes. rounds_pass queues d accepted passes n,
)

-- two rounds pass exactly where one does and no race is between them
pub two_rounds_pass : TwoRoundsPass
two_rounds_pass queues d accepted = (
  λ passes. (
    λ e f race.
        let p = before_parts d.events e f race.0 in
        passes (in_round 2 d e 0) (in_round 2 d f 0) (
          drawn_here queues d accepted 2 e 0 f 0 (p.0, omega arith) (p.1, omega arith) (p.2, inr (refl, race.0)),
          λ h. race.1 ((order_within_a_round queues 2 d e f 0 accepted (p.0, omega arith) (p.1, omega arith)).0 h),
        ),
    λ e f e-in f-in race. passes (in_round 2 d e 0) (in_round 2 d f 1) race,
  ),
  λ both x y race. of_one queues d accepted x y race both.0 both.1,
)

-- nothing is drawn between rounds exactly where the one is of the last segment, and the other of
-- the first
pub next_over_two_rounds : NextOverTwoRounds
next_over_two_rounds queues d e f accepted e-in f-in on =
    let first : (x : ℕ) → x < length d.events → IsIn 2 d x 0 = λ x h. (h, omega arith) in
    let second : (x : ℕ) → x < length d.events → IsIn 2 d x 1 = λ x h. (h, omega arith) in (
      λ next. (
        λ x h.
            let p = before_parts d.events e x h in
            next (in_round 2 d x 0) (drawn_here queues d accepted 2 e 0 x 0 (first e e-in) (first x p.1) (p.2, inr (refl, h)))
            (drawn_here queues d accepted 2 x 0 f 1 (first x p.1) (second f f-in) (sym p.2 ∙ on, inl (omega arith))),
        λ x h.
            let p = before_parts d.events x f h in
            next (in_round 2 d x 1) (drawn_here queues d accepted 2 e 0 x 1 (first e e-in) (second x p.0) (on ∙ sym p.2, inl (omega arith)))
            (drawn_here queues d accepted 2 x 1 f 1 (second x p.0) (second f f-in) (p.2, inr (refl, h))),
      ),
      λ ends z h k.
          let a = event_round queues d accepted 2 z (before_parts (two_rounds d).events (in_round 2 d e 0) z h).1 in
          let g = event_of 2 d.events z in
          let p = round_of 2 d.events z in
          let up = above_here queues d accepted 2 e 0 g p (first e e-in) a.0 (subst (λ (x : ℕ). before (two_rounds d).events (in_round 2 d e 0) x ≡ true) (sym a.1) h) in
          let down = above_here queues d accepted 2 g p f 1 a.0 (second f f-in) (subst (λ (x : ℕ). before (two_rounds d).events x (in_round 2 d f 1) ≡ true) (sym a.1) k) in
          elim up.1 [
            | inl later ↦ elim down.1 [
              | inl lt ↦ absurd (omega arith)
              | inr same ↦ ends.1 g same.1
            ]
            | inr same ↦ ends.0 g same.1
          ],
    )

module _ (queues : Queues) (n : ℕ) (d : Drawing) (e r f q : ℕ) (accepted : IsAccepted d) (a : IsIn n d e r) (b : IsIn n d f q) where
  -- within a round a closest race is one of the chart
  within_one : (g : ℕ) → g < length d.events → IsNextRace (wired queues (repeated n d)) (in_round n d e r) (in_round n d g r) ↔ IsNextRace (wired queues d) e g
  within_one g g-in = within_round queues d accepted IsNextRace (next_race_moved queues d) n e g r a (g-in, a.1)

  -- over two rounds that follow each other it is one of two
  over_two : q ≡ r + 1 → IsNextRace (wired queues (repeated n d)) (in_round n d e r) (in_round n d f q) ↔ IsNextRace (wired queues (two_rounds d)) (in_round 2 d e 0) (in_round 2 d f 1)
  over_two next =
      let fits : r + 2 ≤ n = (let h = b.1 in omega arith) in
      let here : r + 0 ≡ r = omega arith in
      let two = IsNextRace (wired queues (two_rounds d)) (in_round 2 d e 0) (in_round 2 d f 1) in
      let both = over_rounds queues d accepted IsNextRace (next_race_moved queues d) n 2 r e 0 f 1 fits (a.0, omega arith) (b.0, omega arith) in
      subst (λ (k : ℕ). IsNextRace (wired queues (repeated n d)) (in_round n d e k) (in_round n d f q) ↔ two) here
      (subst (λ (k : ℕ). IsNextRace (wired queues (repeated n d)) (in_round n d e (r + 0)) (in_round n d f k) ↔ two) (sym next) both)

  -- a closest race of n rounds is one of the chart, or one of two rounds
  pub closest_told : IsNextRace (wired queues (repeated n d)) (in_round n d e r) (in_round n d f q)
      → ((q ≡ r) × IsNextRace (wired queues d) e f) ⊎ ((q ≡ r + 1) × IsNextRace (wired queues (two_rounds d)) (in_round 2 d e 0) (in_round 2 d f 1))
  closest_told race =
      let up = above_here queues d accepted n e r f q a b race.0.0 in
      elim up.1 [
        | inr same ↦
            let one = subst (λ (k : ℕ). IsNextRace (wired queues (repeated n d)) (in_round n d e r) (in_round n d f k)) (sym same.0) race in
            inl (sym same.0, (within_one f b.0).0 one)
        | inl lt ↦ elim (cases_lt (r + 1) q) [
          | inl far ↦
              let between : IsIn n d e (r + 1) = (a.0, let h = b.1 in omega arith) in
              absurd (race.1 (in_round n d e (r + 1)) (drawn_here queues d accepted n e r e (r + 1) a between (refl, inl (omega arith)))
              (drawn_here queues d accepted n e (r + 1) f q between b (up.0, inl far)))
          | inr near ↦
              let next : q ≡ r + 1 = omega arith in
              inr (next, (over_two next).0 race)
        ]
      ]

  -- and the other way
  pub closest_made : ((q ≡ r) × IsNextRace (wired queues d) e f) ⊎ ((q ≡ r + 1) × IsNextRace (wired queues (two_rounds d)) (in_round 2 d e 0) (in_round 2 d f 1))
      → IsNextRace (wired queues (repeated n d)) (in_round n d e r) (in_round n d f q)
  closest_made (inl within) =
      subst (λ (k : ℕ). IsNextRace (wired queues (repeated n d)) (in_round n d e r) (in_round n d f k)) (sym within.0)
      ((within_one f b.0).1 within.1)
  closest_made (inr over) = (over_two over.0).1 over.1

-- the closest races of n rounds are told by two
pub closest_races_by_two : ClosestRacesByTwo
closest_races_by_two queues n d e r f q accepted a b = (closest_told queues n d e r f q accepted a b, closest_made queues n d e r f q accepted a b)

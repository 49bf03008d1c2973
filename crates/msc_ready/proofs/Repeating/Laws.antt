-- The laws of several rounds of a chart some of whose instances are ready.
use Rattle.std.proofs.Common.{◌≡◌, ℕ, ◌+◌, ◌≤◌, Bool, true, inl, inr, sym, subst, arith}
use Rattle.msc_chart.specs.declared.queue.Queues.{Queues}
use Rattle.msc_chart.specs.Charts.{IsAcyclic, Visual}
use Rattle.msc_chart.specs.Drawings.{Drawing, IsAccepted}
use Rattle.msc_chart.specs.Orders.{wired}
use Rattle.msc_chart.specs.Precedence.{Precedes}
use Rattle.msc_chart.specs.Rounds.{event_of, repeated, round_of, two_rounds}
use Rattle.msc_chart.proofs.Drawn.{before_parts}
use Rattle.msc_chart.proofs.Moves.{to}
use Rattle.msc_chart.proofs.UnrolledCharts.{HasRounds}
use Rattle.msc_chart.proofs.UnrolledRounds.{one_round, rounds_of}
use Rattle.msc_chart.proofs.RoundRaces.{event_round, over_rounds, within_round}
use Rattle.msc_chart.proofs.RoundLawProofs.{order_back, visual_order_within_a_round}
use Rattle.msc_chart.proofs.Unrolling.{order_moved}
use Rattle.msc_ready.specs.RoundLaws.{AllGoOn, ManyRoundsStickAsTwo, NoReadyWayBack, ReadyOrderOfSomeRounds, ReadyOrderWithinARound, RoundsFinishByOne, RoundsGoOnByTwo, RoundsRingByOne, RoundsStickByTwo, BlockedPairsOfTwoRounds, BlockedPairsWithinARound}
use Rattle.msc_ready.specs.BlockedPairs.{HasNoBlockedPair, IsBlockedPair}
use Rattle.msc_ready.proofs.Repeating.UnrolledCharts.{one_line}
use Rattle.msc_ready.proofs.Repeating.Sticking.{none_more, none_of_two, blocked_pair_moved}
use Rattle.msc_ready.proofs.Repeating.Finishing.{finish_both, ring_both}
use Rattle.msc_ready.proofs.Runs.Sticking.{goes_on, none_where_all_go_on}

-- nothing leads back
pub no_ready_way_back : NoReadyWayBack
no_ready_way_back queues n d ready e r f q accepted a b h = order_back queues n d accepted ready true e r f q a b h

-- within a round the order is that of the chart
pub ready_order_within_a_round : ReadyOrderWithinARound
ready_order_within_a_round queues n d ready e f r accepted a b =
    within_round queues d accepted (λ chart. Precedes chart ready true) (order_moved queues d ready true) n e f r a b

-- over some rounds it is that of as many
pub ready_order_of_some_rounds : ReadyOrderOfSomeRounds
ready_order_of_some_rounds queues n m s d ready e r f q accepted back a b =
    over_rounds queues d accepted (λ chart. Precedes chart ready true) (order_moved queues d ready true) n m s e r f q back a b

-- within a round the blocked pairs are those of the chart
pub blocked_pairs_within_a_round : BlockedPairsWithinARound
blocked_pairs_within_a_round queues n d ready e f r accepted a b =
    within_round queues d accepted (λ chart. IsBlockedPair chart ready) (blocked_pair_moved ready) n e f r a b

module _ (queues : Queues) (d : Drawing) (accepted : IsAccepted d) (ready : ℕ → Bool) where
  -- the chart and its two rounds
  abbrev one : HasRounds queues d 1 (wired queues d)
  one = one_round queues d accepted

  abbrev two : HasRounds queues d 2 (wired queues (two_rounds d))
  two = rounds_of queues d accepted 2

  -- a blocked pair of the chart is one of its first round
  blocked_pair_in_two : HasNoBlockedPair (wired queues (two_rounds d)) ready → HasNoBlockedPair (wired queues d) ready
  blocked_pair_in_two none x y blocked_pair =
      let p = before_parts d.events x y blocked_pair.drawn in
      none (to one two 0 0 x) (to one two 0 0 y)
      (blocked_pair_moved ready 1 2 (wired queues d) (wired queues (two_rounds d)) one two 0 0 1 (omega arith) (omega arith) x y
      (record { within = p.0; from = omega arith; below = omega arith }) (record { within = p.1; from = omega arith; below = omega arith }) blocked_pair)

  -- and a blocked pair within a round is one of the chart
  blocked_pair_in_one : HasNoBlockedPair (wired queues d) ready → (x y : ℕ) → IsBlockedPair (wired queues (two_rounds d)) ready x y
      → round_of 2 d.events x ≡ round_of 2 d.events y → ⊥
  blocked_pair_in_one none x y blocked_pair same =
      let p = before_parts (two_rounds d).events x y blocked_pair.drawn in
      let r = two.round_in x p.0 in
      let back : round_of 2 d.events x + 1 ≤ 2 = omega arith in
      none (to two one (round_of 2 d.events x) 0 x) (to two one (round_of 2 d.events x) 0 y)
      (blocked_pair_moved ready 2 1 (wired queues (two_rounds d)) (wired queues d) two one (round_of 2 d.events x) 0 1 (omega arith) back x y
      (record { within = p.0; from = omega arith; below = omega arith }) (record { within = p.1; from = omega (arith, same); below = omega (arith, same) }) blocked_pair)

-- the blocked pairs of two rounds are within a round or between both
pub blocked_pairs_of_two_rounds : BlockedPairsOfTwoRounds
blocked_pairs_of_two_rounds queues d accepted ready = (
  λ none. (blocked_pair_in_two queues d accepted ready none, λ x y between. none x y between.blocked_pair),
  λ both x y blocked_pair.
      let sheets = rounds_of queues d accepted 2 in
      let p = before_parts (two_rounds d).events x y blocked_pair.drawn in
      let r = sheets.round_in y p.1 in
      elim (sheets.above x y blocked_pair.drawn).1 [
        | inl lt ↦ both.1 x y (record { blocked_pair = blocked_pair; first = omega (arith, lt, r); second = omega (arith, lt, r) })
        | inr same ↦ blocked_pair_in_one queues d accepted ready both.0 x y blocked_pair same.0
      ],
)

-- n rounds blocked pair for some n exactly where two do
pub rounds_stick_by_two : RoundsStickByTwo
rounds_stick_by_two queues d accepted ready = (
  λ none. none 2,
  λ none n. none_more ready (rounds_of queues d accepted n) (rounds_of queues d accepted 2) none,
)

-- and so for each n from two on
pub many_rounds_stick_as_two : ManyRoundsStickAsTwo
many_rounds_stick_as_two queues d accepted ready n some = (
  none_of_two ready (rounds_of queues d accepted n) (rounds_of queues d accepted 2) some,
  none_more ready (rounds_of queues d accepted n) (rounds_of queues d accepted 2),
)

module _ (queues : Queues) (d : Drawing) (accepted : IsAccepted d) (n : ℕ) where
  -- no event of n rounds precedes itself
  rounds_acyclic : IsAcyclic (repeated n d).events
  rounds_acyclic k within h =
      let p = event_round queues d accepted n k within in
      let e = event_of n d.events k in
      let own = visual_order_within_a_round n d e e (round_of n d.events k) accepted p.0 p.0 in
      accepted.acyclic e p.0.0 (own.0 (subst (λ (z : ℕ). Visual (repeated n d).events z z) (sym p.1) h))

  -- so where n rounds never stick, each ready run goes on to a whole one
  rounds_go_on : (ready : ℕ → Bool) → HasNoBlockedPair (wired queues (repeated n d)) ready → AllGoOn (wired queues (repeated n d)) ready
  rounds_go_on = goes_on (wired queues (repeated n d)) (rounds_of queues d accepted n).is_wired (one_line (rounds_of queues d accepted n)) rounds_acyclic

  -- and nowhere else
  only_so : (ready : ℕ → Bool) → AllGoOn (wired queues (repeated n d)) ready → HasNoBlockedPair (wired queues (repeated n d)) ready
  only_so = none_where_all_go_on (wired queues (repeated n d)) (rounds_of queues d accepted n).is_wired (one_line (rounds_of queues d accepted n)) rounds_acyclic

-- so every ready run of n rounds goes on for every n exactly where every one of two does
pub rounds_go_on_by_two : RoundsGoOnByTwo
rounds_go_on_by_two queues d accepted ready = (
  λ all. all 2,
  λ two n. rounds_go_on queues d accepted n ready ((rounds_stick_by_two queues d accepted ready).1 (only_so queues d accepted 2 ready two) n),
)

-- they have a ring exactly where one has
pub rounds_ring_by_one : RoundsRingByOne
rounds_ring_by_one queues d accepted ready n some =
    ring_both ready (rounds_of queues d accepted n) (one_round queues d accepted) some (omega arith)

-- and finish exactly where one does
pub rounds_finish_by_one : RoundsFinishByOne
rounds_finish_by_one queues d accepted ready n some =
    finish_both ready (rounds_of queues d accepted n) (one_round queues d accepted) some (omega arith)

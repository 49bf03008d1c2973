-- The blocked pairs of a chart as lists of pairs.
use Rattle.std.proofs.Common.{◌≡◌, ℕ, ◌+◌, ◌*◌, ◌<◌, ◌≤◌, Bool, true, false, ◌∷◌, length, refl, sym, ap, ◌∙◌, subst, arith, List, []}
use Rattle.std.specs.Prelude.{IsTrue, ◌↔◌}
use Rattle.std.proofs.lemmas.Bool.{false_from_ne_true}
use Rattle.std.proofs.lemmas.List.{length-append}
use Rattle.msc_chart.specs.Charts.{is_input, before, IsInTextOrder, IsLineEnd}
use Rattle.msc_chart.specs.declared.TheConstants.{EVENT_LIMIT}
use Rattle.msc_chart.specs.Lists.{pairs_to, Occurs}
use Rattle.msc_order.proofs.Drawing.{before_later}
use Rattle.msc_race.proofs.Listing.Counts.{below_few}
use Rattle.msc_race.proofs.Listing.Pairs.{below_more, pairs_below, pairs_between, pairs_more, pairs_none, pairs_skip, of_from, of_parts, to_parts}
use Rattle.msc_ready.specs.Held.{ReadyChart, wiring_of, ready_in}
use Rattle.msc_ready.specs.BlockedPairs.{is_blocked_pair, HasNoBlockedPair, IsBlockedPair}
use Rattle.msc_ready.specs.Views.{blocked_pairs_from, AreBlockedPairs, AreBlockedPairsFrom, blocked_pairs_of}
use Rattle.msc_ready.proofs.Holding.{awaited_parts, lined_parts, blocked_pair_lined}
use Rattle.msc_ready.proofs.Shared.{clash, before_parts}

-- a list of pairs has no length exactly where nothing stands in it
pub no_pairs : (xs : List (ℕ × ℕ)) (n : ℕ) → n ≡ length xs → (n ≡ 0) ↔ ((e f : ℕ) → Occurs xs (e, f) → ⊥)
no_pairs [] n count = (λ none e f there. cc, λ none. count)
no_pairs (x ∷ xs) n count = (λ none e f there. omega (arith, none, count), λ none. absurd (none x.0 x.1 (0, refl)))

module _ (r : ReadyChart) where
  -- the test for blocked pairs
  abbrev pub test : ℕ → ℕ → Bool
  test = is_blocked_pair (wiring_of r) (ready_in r) r.order

  -- what passes is drawn in the order, and the first is an input
  pub test_drawn : (e f : ℕ) → test e f ≡ true → (before r.chart.events e f ≡ true) × (is_input r.chart.events e ≡ true)
  test_drawn e f h =
      let parts = lined_parts (wiring_of r) (ready_in r) e f (blocked_pair_lined (wiring_of r) (ready_in r) r.order e f h) in
      ((awaited_parts (wiring_of r) (ready_in r) e f parts.0).0, parts.1)

  -- an event that is no input is the first of no blocked pair
  pub none_of : (e : ℕ) → is_input r.chart.events e ≡ false → blocked_pairs_from r e ≡ []
  none_of e out =
      pairs_between test e 0 (length r.chart.events) (omega arith)
      (λ y low high. false_from_ne_true _ (λ h. clash (test_drawn e y h).1 out))
      ∙ pairs_none test e

  module _ (text : IsInTextOrder r.chart.events) (e : ℕ) where
    -- none is with an event up to e
    pub none_up_to : pairs_to test e e ≡ []
    none_up_to =
        pairs_between test e 0 e (omega arith)
        (λ y low high. false_from_ne_true _ (λ h.
        let later : e < y = before_later r.chart.events text e y (test_drawn e y h).0 in omega arith))
        ∙ pairs_none test e

    -- and none with one past the line of e
    pub none_past : (end : ℕ) → IsLineEnd r.chart.events e end → blocked_pairs_from r e ≡ pairs_to test e end
    none_past end line_end =
        pairs_between test e end (length r.chart.events) line_end.within
        (λ y low high. false_from_ne_true _ (λ h.
        let parts = before_parts r.chart.events e y (test_drawn e y h).0 in
        line_end.past y low high parts.2))

  -- one blocked pair more is counted
  pub counted_more : (e k count : ℕ) → test e k ≡ true → count ≡ length (pairs_to test e k)
      → count + 1 ≡ length (pairs_to test e (k + 1))
  counted_more e k count passes same =
      let more = ap length (pairs_more test e k passes) ∙ length-append (pairs_to test e k) ((e, k) ∷ []) in
      omega (arith, more, same)

  -- and no other pair
  pub counted_same : (e k count : ℕ) → test e k ≡ false → count ≡ length (pairs_to test e k)
      → count ≡ length (pairs_to test e (k + 1))
  counted_same e k count fails same = same ∙ sym (ap length (pairs_skip test e k fails))

  -- the blocked pairs of the events below k and those of k are those of the events up to k
  pub one_more_counted : (k total last : ℕ) → total ≡ length (pairs_below test (length r.chart.events) k) → last ≡ length (blocked_pairs_from r k)
      → total + last ≡ length (pairs_below test (length r.chart.events) (k + 1))
  one_more_counted k total last before at_k =
      let more = ap length (below_more test (length r.chart.events) k) ∙ length-append (pairs_below test (length r.chart.events) k) (blocked_pairs_from r k) in
      omega (arith, more, before, at_k)

  -- they are few
  pub few_counted : (k : ℕ) → length r.chart.events ≤ EVENT_LIMIT → k ≤ EVENT_LIMIT
      → length (pairs_below test (length r.chart.events) k) ≤ EVENT_LIMIT * EVENT_LIMIT
  few_counted k few below =
      let most = below_few test (length r.chart.events) k few in
      omega (arith, most, below)

  -- the blocked pairs of an event are its blocked pairs
  pub each_from : ((e f : ℕ) → IsTrue (test e f) ↔ IsBlockedPair (wiring_of r) (ready_in r) e f) → (e : ℕ) → AreBlockedPairsFrom r e (blocked_pairs_from r e)
  each_from told e x y there =
      let p = to_parts test e (length r.chart.events) x y there in
      (p.0, subst (λ (z : ℕ). IsBlockedPair (wiring_of r) (ready_in r) z y) (sym p.0) ((told e y).0 p.2))

  -- all blocked pairs are listed, and nothing else
  pub are_blocked_pairs : ((e f : ℕ) → IsTrue (test e f) ↔ IsBlockedPair (wiring_of r) (ready_in r) e f) → AreBlockedPairs r (blocked_pairs_of r)
  are_blocked_pairs told e f = (
    λ s.
        let below = before_parts r.chart.events e f s.drawn in
        of_from test (length r.chart.events) e f below.0 below.1 ((told e f).1 s),
    λ there. (told e f).0 (of_parts test (length r.chart.events) e f there).2,
  )

  -- so none is listed where there is none
  pub none_listed : ((e f : ℕ) → IsTrue (test e f) ↔ IsBlockedPair (wiring_of r) (ready_in r) e f) → (n : ℕ) → n ≡ length (blocked_pairs_of r)
      → (n ≡ 0) ↔ HasNoBlockedPair (wiring_of r) (ready_in r)
  none_listed told n count =
      let are = are_blocked_pairs told in
      let all = no_pairs (blocked_pairs_of r) n count in
      (λ none e f s. all.0 none e f ((are e f).0 s), λ none. all.1 (λ e f there. none e f ((are e f).1 there)))

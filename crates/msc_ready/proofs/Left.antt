-- The races that are left, as a list of pairs.
use Rattle.std.proofs.Common.{◌≡◌, ℕ, ◌+◌, Bool, true, false, not, ◌&&◌, [], ◌∷◌, length, sym, ap, ◌∙◌, arith}
use Rattle.std.proofs.lemmas.Bool.{and_from, and_parts, false_from_ne_true, not-true, not_from_false}
use Rattle.std.proofs.lemmas.List.{length-append}
use Rattle.msc_chart.specs.Charts.{before, line}
use Rattle.msc_chart.specs.Lists.{pairs_to}
use Rattle.msc_chart.specs.Orders.{WiredChart, IsWired}
use Rattle.msc_race.proofs.Listing.Pairs.{below_more, pairs_below, pairs_more, pairs_skip}
use Rattle.msc_ready.specs.BlockedPairs.{AreLeft, IsRaceLeft}
use Rattle.msc_race.proofs.Runs.Tables.{precedes_order}
use Rattle.msc_ready.proofs.Shared.{clash}

-- a race that is left is a drawn pair of a line that is not ready, which a test for the ready order
-- does not pass
pub left_test : (chart : WiredChart) → IsWired chart → (ready : ℕ → Bool) → (left : ℕ → ℕ → Bool) × AreLeft chart ready left
left_test chart is_wired ready = (test, λ e f. (told e f, tested e f))
  where
    -- a test for the ready order
    order : ℕ → ℕ → Bool
    order = (precedes_order chart is_wired ready true).0

    -- the test
    test : ℕ → ℕ → Bool
    test e f = before chart.events e f && (not (ready (line chart.events e)) && not (order e f))

    -- what passes is a race that is left
    told : (e f : ℕ) → test e f ≡ true → IsRaceLeft chart ready e f
    told e f h =
        let a = and_parts _ _ h in
        let b = and_parts _ _ a.1 in
        (a.0, not-true _ b.0, λ o. clash ((precedes_order chart is_wired ready true).1.complete e f o) (not-true _ b.1))

    -- and each passes
    tested : (e f : ℕ) → IsRaceLeft chart ready e f → test e f ≡ true
    tested e f race =
        let out : order e f ≡ false = false_from_ne_true _ (λ h. race.2 ((precedes_order chart is_wired ready true).1.holds e f h)) in
        and_from _ _ race.0 (and_from _ _ (not_from_false _ race.1) (not_from_false _ out))

module _ (left : ℕ → ℕ → Bool) where
  -- one pair more is counted
  pub left_more : (e k count : ℕ) → left e k ≡ true → count ≡ length (pairs_to left e k) → count + 1 ≡ length (pairs_to left e (k + 1))
  left_more e k count passes same =
      let more = ap length (pairs_more left e k passes) ∙ length-append (pairs_to left e k) ((e, k) ∷ []) in
      omega (arith, more, same)

  -- and no other
  pub left_same : (e k count : ℕ) → left e k ≡ false → count ≡ length (pairs_to left e k) → count ≡ length (pairs_to left e (k + 1))
  left_same e k count fails same = same ∙ sym (ap length (pairs_skip left e k fails))

  -- those of the events below k and those of k are those of the events up to k
  pub left_below : (n k total last : ℕ) → total ≡ length (pairs_below left n k) → last ≡ length (pairs_to left k n)
      → total + last ≡ length (pairs_below left n (k + 1))
  left_below n k total last before at_k =
      let more = ap length (below_more left n k) ∙ length-append (pairs_below left n k) (pairs_to left k n) in
      omega (arith, more, before, at_k)

-- Outlets of one queue that are numbered in their order are all outlets of the queue.
use Rattle.std.proofs.Common.{◌≡◌, ◌==◌, ◌⊎◌, Bool, true, false, cond, true≢false, ℕ, ◌+◌, ◌<◌, ◌≤◌, List, ◌∷◌, length, count_by, refl, ◌∙◌, inl, inr, arith, eq-eqb, ne_eqb, eq-or-lt_of_le}
use Rattle.std.proofs.lemmas.List.Sums.{sum_by-cons}
use Rattle.msc_fifo.specs.Ends.{OutletState}
use Rattle.msc_fifo.specs.Laws.{AreNumberedFrom, NumberedOutletsAreWhole}
use Rattle.msc_fifo.specs.Laws.AreNumberedFrom.{none_left, one_more}
use Rattle.msc_fifo.proofs.FillLemmas.{one_of, cond-yes}

-- a choice that is false counts 0
cond-none : (b : Bool) → b ≡ false → cond {A = ℕ} b 1 0 ≡ 0
cond-none true e = absurd (true≢false e)
cond-none false e = refl

-- a sender before the first of them has no outlet there
none_before : (k i : ℕ) (os : List OutletState) → AreNumberedFrom k os → i < k → count_by (λ o. o.sender == i) os ≡ 0
none_before k i os (none_left _) lt = refl
none_before k i os (one_more _ o rest is more) lt = let c = sum_by-cons (one_of i) o rest in let r = none_before (k + 1) i rest more (omega arith) in
    let z : one_of i o ≡ 0 = cond-none (o.sender == i) (ne_eqb o.sender i (λ e. omega arith)) in omega arith

-- a sender from the first on is that of the first outlet or has one behind it
once_more : (k i : ℕ) (o : OutletState) (rest : List OutletState) → o.sender ≡ k → AreNumberedFrom (k + 1) rest → (k < i → count_by (λ o. o.sender == i) rest ≡ 1) → (k ≡ i) ⊎ (k < i) → count_by (λ o. o.sender == i) (o ∷ rest) ≡ 1
once_more k i o rest is more later (inl e) = let c = sum_by-cons (one_of i) o rest in let r = none_before (k + 1) i rest more (omega arith) in
    let z : one_of i o ≡ 1 = cond-yes (o.sender == i) (eq-eqb o.sender i (is ∙ e)) in omega arith
once_more k i o rest is more later (inr less) = let c = sum_by-cons (one_of i) o rest in let r = later less in
    let z : one_of i o ≡ 0 = cond-none (o.sender == i) (ne_eqb o.sender i (λ e. omega arith)) in omega arith

-- each of these senders has one outlet there
once : (k i : ℕ) (os : List OutletState) → AreNumberedFrom k os → k ≤ i → i < k + length os → count_by (λ o. o.sender == i) os ≡ 1
once k i os (none_left _) le lt = absurd (omega arith)
once k i os (one_more _ o rest is more) le lt = once_more k i o rest is more (λ less. once (k + 1) i rest more (omega arith) (omega arith)) (eq-or-lt_of_le le)

-- the law
pub numbered_whole : NumberedOutletsAreWhole
numbered_whole inlet os same numbered count = record {
  queue = same;
  count = count;
  once = λ i lt. once 0 i os numbered (omega arith) (omega arith);
}

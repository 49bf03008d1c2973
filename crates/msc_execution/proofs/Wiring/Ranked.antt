-- The k-th sender of a queue is of rank k.
use Rattle.std.proofs.Common.{◌≡◌, ℕ, zero, suc, ◌+◌, Bool, true, cond, List, ◌∷◌, length, filter, sym, ap, ◌∙◌, arith}
use Rattle.std.specs.Prelude.{count_by, Some, slice_get}
use Rattle.std.specs.List.{range_with_len}
use Rattle.msc_chart.specs.Laws.{sends_to, senders_in}
use Rattle.msc_chart.proofs.ListLemmas.{by_test}
use Rattle.msc_execution.specs.Roles.{rank_of}
use Rattle.msc_execution.specs.Fits.{SendersAreRanked}
use Rattle.msc_execution.proofs.Lists.Words.{filter_yes, filter_no}
use Rattle.msc_execution.proofs.Lists.Ranges.{count_more}

module _ (p : ℕ → Bool) where
  -- the k-th of a list whose head passes
  first : (a k i : ℕ) (l : List ℕ) → p a ≡ true → slice_get (a ∷ l) k ≡ Some i
      → ((j : ℕ) → slice_get l j ≡ Some i
      → count_by p (range_with_len 0 i) ≡ count_by p (range_with_len 0 (a + 1)) + j)
      → count_by p (range_with_len 0 i) ≡ count_by p (range_with_len 0 a) + k
  first a zero i l t at later =
      (let same : i ≡ a = cc in let e = ap (λ (x : ℕ). count_by p (range_with_len 0 x)) same in
      omega (arith, e))
  first a (suc k) i l t at later =
      let r = later k at in
      let m = count_more p a in
      let one = ap (λ (b : Bool). cond {A = ℕ} b 1 0) t in
      omega (arith, r, m, one)

  -- the k-th number of a range that passes has k before it that pass
  pub kth : (n a k i : ℕ) → slice_get (filter p (range_with_len a n)) k ≡ Some i
      → count_by p (range_with_len 0 i) ≡ count_by p (range_with_len 0 a) + k
  kth zero a k i at = cc
  kth (suc n) a k i at =
      let m = count_more p a in
      by_test (p a)
      (λ t.
      first a k i (filter p (range_with_len (a + 1) n)) t
      (ap (λ (l : List ℕ). slice_get l k) (sym (filter_yes p a (range_with_len (a + 1) n) t)) ∙ at)
      (λ j there. kth n (a + 1) j i there))
      (λ f.
      let r =
      kth n (a + 1) k i (ap (λ (l : List ℕ). slice_get l k)
      (sym (filter_no p a (range_with_len (a + 1) n) f)) ∙ at) in
      let none = ap (λ (b : Bool). cond {A = ℕ} b 1 0) f in
      omega (arith, r, m, none))

-- so the k-th sender is of rank k
pub ranked : SendersAreRanked
unfolding senders_in rank_of
ranked queues d q k i at = let r = kth (sends_to queues d q) (length d.instances) 0 k i at in
    omega (arith, r)

-- The pairs that pass a test are listed ascending.
use Rattle.std.proofs.Common.{zero, suc, ◌≡◌, ℕ, ◌+◌, Bool, true, false, cond, inl, inr, List, [], ◌∷◌, ◌++◌, refl, sym, ap, ◌∙◌, subst, arith}
use Rattle.msc_chart.specs.Lists.{Occurs, pairs_of, pairs_to}
use Rattle.msc_race.specs.Races.{AreAscending, IsPairBefore}
use Rattle.msc_race.proofs.Listing.Pairs.{below_all, below_more, below_none, below_parts, in_either, last_of, pairs_below, pairs_next, pairs_none, to_parts}

-- no pair stands in the empty list
pub none_ascend : AreAscending []
none_ascend i j p q less h k = cc

-- a pair before an ascending list of pairs that it comes before
pub first_ascends : (x : ℕ × ℕ) (xs : List (ℕ × ℕ)) → ((q : ℕ × ℕ) → Occurs xs q → IsPairBefore x q) → AreAscending xs
    → AreAscending (x ∷ xs)
first_ascends x xs before rest zero zero p q less h k = absurd (omega arith)
first_ascends x xs before rest zero (suc j) p q less h k =
    let same : x ≡ p = cc in
    subst (λ (r : ℕ × ℕ). IsPairBefore r q) same (before q (j, k))
first_ascends x xs before rest (suc i) zero p q less h k = absurd (omega arith)
first_ascends x xs before rest (suc i) (suc j) p q less h k = rest i j p q (omega arith) h k

-- an ascending list before another one whose pairs come after its own
both_ascend : (xs ys : List (ℕ × ℕ)) → AreAscending xs → AreAscending ys
    → ((p q : ℕ × ℕ) → Occurs xs p → Occurs ys q → IsPairBefore p q) → AreAscending (xs ++ ys)
both_ascend [] ys a b between = b
both_ascend (x ∷ xs) ys a b between =
    first_ascends x (xs ++ ys)
    (λ q there. elim (in_either xs ys q there) [
      | inl r ↦ a zero (suc r.0) x q (omega arith) refl r.1
      | inr r ↦ between x q (zero, refl) r
    ])
    (both_ascend xs ys (λ i j p q less h k. a (suc i) (suc j) p q (omega arith) h k) b
    (λ p q h k. between p q (suc h.0, h.1) k))

module _ (test : ℕ → ℕ → Bool) where
  -- at most one pair is ascending
  last_ascends : (e k : ℕ) (b : Bool) → AreAscending (cond b ((e, k) ∷ []) [])
  last_ascends e k true = first_ascends (e, k) [] (λ q there. absurd cc) none_ascend
  last_ascends e k false = none_ascend

  -- the pairs of one number are
  to_ascends : (e k : ℕ) → AreAscending (pairs_to test e k)
  to_ascends e zero = subst AreAscending (sym (pairs_none test e)) none_ascend
  to_ascends e (suc k) =
      let one : k + 1 ≡ suc k = omega arith in
      let last : List (ℕ × ℕ) = cond (test e k) ((e, k) ∷ []) [] in
      subst AreAscending (sym (pairs_next test e k) ∙ ap (λ (n : ℕ). pairs_to test e n) one)
      (both_ascend (pairs_to test e k) last (to_ascends e k) (last_ascends e k (test e k)) (λ p q h l.
      let first = to_parts test e k p.0 p.1 h in
      let second = last_of test e k q.0 q.1 l in
      inr (first.0 ∙ sym second.0, omega (arith, first.1, second.1))))

  -- the pairs of the numbers below k are
  below_ascends : (n k : ℕ) → AreAscending (pairs_below test n k)
  below_ascends n zero = subst AreAscending (sym (below_none test n)) none_ascend
  below_ascends n (suc k) =
      let one : k + 1 ≡ suc k = omega arith in
      subst AreAscending (sym (below_more test n k) ∙ ap (λ (m : ℕ). pairs_below test n m) one)
      (both_ascend (pairs_below test n k) (pairs_to test k n) (below_ascends n k) (to_ascends k n) (λ p q h l.
      let first = below_parts test n k p.0 p.1 h in
      let second = to_parts test k n q.0 q.1 l in
      inl (omega (arith, first.0, second.0))))

  -- and so are those of all numbers
  pub of_ascends : (n : ℕ) → AreAscending (pairs_of test n)
  of_ascends n = subst AreAscending (below_all test n n refl) (below_ascends n n)

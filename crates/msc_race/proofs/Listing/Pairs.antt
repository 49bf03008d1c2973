-- Lists of the pairs that pass a test, one more at a time.
use Rattle.std.proofs.Common.{zero, suc, ◌≡◌, ℕ, ◌+◌, ◌-◌, ◌<◌, ◌≤◌, ◌⊎◌, Bool, true, false, cond, inl, inr, List, [], ◌∷◌, ◌++◌, refl, sym, ap, ap₂, ◌∙◌, subst, arith, Some, add-zero}
use Rattle.std.specs.List.{range_with_len, flat_map}
use Rattle.std.proofs.lemmas.Bool.{cases_eq}
use Rattle.std.proofs.lemmas.List.{append-nil, append_assoc, flat_map_more, map-id}
use Rattle.std.proofs.lemmas.List.FromFn.{filter_of_map_range_with_len_more, map-range_with_len_more}
use Rattle.msc_chart.specs.Lists.{Occurs, pairs_to, pairs_of}
use Rattle.msc_race.proofs.Shared.{by_test}

module _ (test : ℕ → ℕ → Bool) where
  -- no number is below 0
  pub pairs_none : (e : ℕ) → pairs_to test e 0 ≡ []
  unfolding pairs_to
  pairs_none e = refl

  -- one number more
  pub pairs_next : (e k : ℕ) → pairs_to test e (k + 1) ≡ pairs_to test e k ++ cond (test e k) ((e, k) ∷ []) []
  unfolding pairs_to
  pairs_next e k = filter_of_map_range_with_len_more (λ (p : ℕ × ℕ). test p.0 p.1) (λ f. (e, f)) 0 k k (omega arith)

  -- one number more that passes
  pub pairs_more : (e k : ℕ) → test e k ≡ true → pairs_to test e (k + 1) ≡ pairs_to test e k ++ (e, k) ∷ []
  pairs_more e k h = pairs_next e k ∙ ap (λ (b : Bool). pairs_to test e k ++ cond b ((e, k) ∷ []) []) h

  -- one number more that does not
  pub pairs_skip : (e k : ℕ) → test e k ≡ false → pairs_to test e (k + 1) ≡ pairs_to test e k
  pairs_skip e k h = pairs_next e k ∙ ap (λ (b : Bool). pairs_to test e k ++ cond b ((e, k) ∷ []) []) h ∙ append-nil (pairs_to test e k)

  -- where none of the numbers from i passes, the list stays
  pairs_gap : (e i k : ℕ) → ((y : ℕ) → i ≤ y → y < i + k → test e y ≡ false) → pairs_to test e (i + k) ≡ pairs_to test e i
  pairs_gap e i zero h = ap (λ (n : ℕ). pairs_to test e n) (add-zero i)
  pairs_gap e i (suc k) h =
      let same : i + suc k ≡ i + k + 1 = omega arith in
      rw same (pairs_skip e (i + k) (h (i + k) (omega arith) (omega arith)) ∙ pairs_gap e i k (λ y a b. h y a (omega arith)))

  -- where none of the numbers between passes, the lists are the same
  pub pairs_between : (e i j : ℕ) → i ≤ j → ((y : ℕ) → i ≤ y → y < j → test e y ≡ false) → pairs_to test e j ≡ pairs_to test e i
  pairs_between e i j le h =
      let same : j ≡ i + (j - i) = omega arith in
      rw same (pairs_gap e i (j - i) (λ y a b. h y a (omega arith)))

  -- the pairs of the numbers below k with all below n
  unfoldable pub pairs_below : ℕ → ℕ → List (ℕ × ℕ)
  pairs_below n k = flat_map (λ e. pairs_to test e n) (range_with_len 0 k)

  -- no number is below 0
  pub below_none : (n : ℕ) → pairs_below n 0 ≡ []
  unfolding pairs_below
  below_none n = refl

  -- one number more brings its pairs
  pub below_more : (n k : ℕ) → pairs_below n (k + 1) ≡ pairs_below n k ++ pairs_to test k n
  unfolding pairs_below
  below_more n k =
      ap (λ (l : List ℕ). flat_map (λ e. pairs_to test e n) l) (range_more k)
      ∙ sym (flat_map_more (λ e. pairs_to test e n) [] (range_with_len 0 k) k)
    where
      -- one number more comes last in the range
      range_more : (k : ℕ) → range_with_len 0 (k + 1) ≡ range_with_len 0 k ++ k ∷ []
      range_more k = sym (map-id (range_with_len 0 (k + 1))) ∙ map-range_with_len_more (λ x. x) 0 k k (omega arith) ∙ ap (λ l. l ++ k ∷ []) (map-id (range_with_len 0 k))

  -- more numbers have the pairs of fewer, and some others behind them
  pub below_rest : (n k j : ℕ) → (rest : List (ℕ × ℕ)) × (pairs_below n (k + j) ≡ pairs_below n k ++ rest)
  below_rest n k zero = ([], ap (pairs_below n) (add-zero k) ∙ sym (append-nil (pairs_below n k)))
  below_rest n k (suc j) =
      let before = below_rest n k j in
      let same : k + suc j ≡ k + j + 1 = omega arith in (
        before.0 ++ pairs_to test (k + j) n,
        rw same (below_more n (k + j) ∙ ap (λ (l : List (ℕ × ℕ)). l ++ pairs_to test (k + j) n) before.1
            ∙ append_assoc (pairs_below n k) before.0 (pairs_to test (k + j) n)),
      )

  -- the pairs of all numbers
  pub below_all : (n k : ℕ) → k ≡ n → pairs_below n k ≡ pairs_of test n
  unfolding pairs_below pairs_of
  below_all n k h = rw h refl

  -- and those of the numbers below k are first among them
  pub of_rest : (n k : ℕ) → k ≤ n → (rest : List (ℕ × ℕ)) × (pairs_of test n ≡ pairs_below n k ++ rest)
  of_rest n k le =
      let more = below_rest n k (n - k) in
      let same : k + (n - k) ≡ n = omega arith in
      (more.0, sym (below_all n (k + (n - k)) same) ∙ more.1)

-- tests that agree below k have the same pairs
pub pairs_same : (p q : ℕ → ℕ → Bool) (e k : ℕ) → ((f : ℕ) → f < k → p e f ≡ q e f) → pairs_to p e k ≡ pairs_to q e k
pairs_same p q e zero h = pairs_none p e ∙ sym (pairs_none q e)
pairs_same p q e (suc k) h =
    let one : suc k ≡ k + 1 = omega arith in
    rw one (pairs_next p e k
    ∙ ap (λ (b : Bool). pairs_to p e k ++ cond b ((e, k) ∷ []) []) (h k (omega arith))
    ∙ ap (λ (l : List (ℕ × ℕ)). l ++ cond (q e k) ((e, k) ∷ []) []) (pairs_same p q e k (λ f below. h f (omega arith)))
    ∙ sym (pairs_next q e k))

-- Where a test passes no number below i, and from there on what another passes, the pairs of the other
-- are those below i and then those of the test.
pub pairs_join : (p q : ℕ → ℕ → Bool) (e i n : ℕ) → i ≤ n → ((f : ℕ) → f < i → q e f ≡ false)
    → ((f : ℕ) → i ≤ f → f < n → p e f ≡ q e f) → pairs_to p e n ≡ pairs_to p e i ++ pairs_to q e n
pairs_join p q e i zero le none same =
    let all : i ≡ 0 = omega arith in
    rw (all, pairs_none p e, pairs_none q e) refl
pairs_join p q e i (suc n) le none same =
    let one : suc n ≡ n + 1 = omega arith in
    elim (cases_eq i (suc n)) [
      | inl all ↦
          let empty = pairs_between q e 0 (suc n) (omega arith) (λ f low below. none f (omega (arith, below, all))) ∙ pairs_none q e in
          rw (all, empty) (sym (append-nil (pairs_to p e (suc n))))
      | inr more ↦
          let before = pairs_join p q e i n (omega (arith, le, more)) none (λ f low below. same f low (omega arith)) in
          rw one (pairs_next p e n
          ∙ ap₂ (λ (l : List (ℕ × ℕ)) (b : Bool). l ++ cond b ((e, n) ∷ []) []) before (same n (omega (arith, le, more)) (omega arith))
          ∙ append_assoc (pairs_to p e i) (pairs_to q e n) (cond (q e n) ((e, n) ∷ []) [])
          ∙ ap (λ (l : List (ℕ × ℕ)). pairs_to p e i ++ l) (sym (pairs_next q e n)))
    ]

module _ {T : Type 0} where
  -- what occurs in two lists occurs in one of them
  pub in_either : (xs ys : List T) (p : T) → Occurs (xs ++ ys) p → Occurs xs p ⊎ Occurs ys p
  in_either [] ys p (j, h) = inr (j, h)
  in_either (x ∷ xs) ys p (zero, h) = inl (zero, h)
  in_either (x ∷ xs) ys p (suc j, h) = elim (in_either xs ys p (j, h)) [ inl r ↦ inl (suc r.0, r.1) | inr r ↦ inr r ]

  -- what occurs in the first of two lists occurs in both together
  pub in_left : (xs ys : List T) (p : T) → Occurs xs p → Occurs (xs ++ ys) p
  in_left [] ys p (j, h) = cc
  in_left (x ∷ xs) ys p (zero, h) = (zero, h)
  in_left (x ∷ xs) ys p (suc j, h) = let r = in_left xs ys p (j, h) in (suc r.0, r.1)

  -- and what occurs in the second
  pub in_right : (xs ys : List T) (p : T) → Occurs ys p → Occurs (xs ++ ys) p
  in_right [] ys p h = h
  in_right (x ∷ xs) ys p h = let r = in_right xs ys p h in (suc r.0, r.1)

module _ (test : ℕ → ℕ → Bool) where
  -- what is last in the list, where it passes
  pub last_of : (e k x y : ℕ) → Occurs {T = ℕ × ℕ} (cond (test e k) ((e, k) ∷ []) []) (x, y) → (x ≡ e) × (y ≡ k) × (test e k ≡ true)
  last_of e k x y h =
      by_test (test e k)
      (λ passes. one (subst (λ (b : Bool). Occurs {T = ℕ × ℕ} (cond b ((e, k) ∷ []) []) (x, y)) passes h) passes)
      (λ fails. none (subst (λ (b : Bool). Occurs {T = ℕ × ℕ} (cond b ((e, k) ∷ []) []) (x, y)) fails h))
    where
      -- where it passes, it is the one pair
      one : Occurs {T = ℕ × ℕ} ((e, k) ∷ []) (x, y) → test e k ≡ true → (x ≡ e) × (y ≡ k) × (test e k ≡ true)
      one (zero, p) passes =
          let same : (e, k) ≡ (x, y) = cc in
          (sym (ap (λ (p : ℕ × ℕ). p.0) same), sym (ap (λ (p : ℕ × ℕ). p.1) same), passes)
      one (suc j, p) passes = cc

      -- where it does not, there is none
      none : Occurs {T = ℕ × ℕ} [] (x, y) → (x ≡ e) × (y ≡ k) × (test e k ≡ true)
      none (j, p) = cc

  -- the pairs of e are those that pass
  pub to_parts : (e k x y : ℕ) → Occurs (pairs_to test e k) (x, y) → (x ≡ e) × (y < k) × (test e y ≡ true)
  to_parts e zero x y h = nothing (subst (λ (l : List (ℕ × ℕ)). Occurs l (x, y)) (pairs_none test e) h)
    where
      -- there are no pairs of e with numbers below 0
      nothing : Occurs {T = ℕ × ℕ} [] (x, y) → (x ≡ e) × (y < zero) × (test e y ≡ true)
      nothing (j, p) = cc
  to_parts e (suc k) x y h =
      let one : suc k ≡ k + 1 = omega arith in
      let both = subst (λ (l : List (ℕ × ℕ)). Occurs l (x, y)) (ap (λ (n : ℕ). pairs_to test e n) one ∙ pairs_next test e k) h in
      elim (in_either (pairs_to test e k) (cond (test e k) ((e, k) ∷ []) []) (x, y) both) [
        | inl r ↦ let p = to_parts e k x y r in (p.0, omega (arith, p.1), p.2)
        | inr r ↦
            let p = last_of e k x y r in
            (p.0, omega (arith, p.1), subst (λ (z : ℕ). test e z ≡ true) (sym p.1) p.2)
      ]

  -- a pair that passes is in the list
  pub to_from : (e k f : ℕ) → f < k → test e f ≡ true → Occurs (pairs_to test e k) (e, f)
  to_from e zero f below h = absurd (omega arith)
  to_from e (suc k) f below h =
      let one : k + 1 ≡ suc k = omega arith in
      subst (λ (l : List (ℕ × ℕ)). Occurs l (e, f)) (sym (pairs_next test e k) ∙ ap (λ (n : ℕ). pairs_to test e n) one)
      (elim (cases_eq f k) [
        | inl same ↦
            let last : Occurs {T = ℕ × ℕ} (cond (test e k) ((e, k) ∷ []) []) (e, f) =
            subst (λ (b : Bool). Occurs {T = ℕ × ℕ} (cond b ((e, k) ∷ []) []) (e, f)) (sym (subst (λ (z : ℕ). test e z ≡ true) same h)) (zero, ap (λ (z : ℕ). Some (e, z)) (sym same)) in
            in_right (pairs_to test e k) (cond (test e k) ((e, k) ∷ []) []) (e, f) last
        | inr other ↦ in_left (pairs_to test e k) (cond (test e k) ((e, k) ∷ []) []) (e, f) (to_from e k f (omega (arith, below, other)) h)
      ])

  -- the pairs of the numbers below k are those that pass
  pub below_parts : (n k x y : ℕ) → Occurs (pairs_below test n k) (x, y) → (x < k) × (y < n) × (test x y ≡ true)
  below_parts n zero x y h = nothing (subst (λ (l : List (ℕ × ℕ)). Occurs l (x, y)) (below_none test n) h)
    where
      -- there are no pairs of numbers below 0
      nothing : Occurs {T = ℕ × ℕ} [] (x, y) → (x < zero) × (y < n) × (test x y ≡ true)
      nothing (j, p) = cc
  below_parts n (suc k) x y h =
      let one : suc k ≡ k + 1 = omega arith in
      let both = subst (λ (l : List (ℕ × ℕ)). Occurs l (x, y)) (ap (λ (m : ℕ). pairs_below test n m) one ∙ below_more test n k) h in
      elim (in_either (pairs_below test n k) (pairs_to test k n) (x, y) both) [
        | inl r ↦ let p = below_parts n k x y r in (omega (arith, p.0), p.1, p.2)
        | inr r ↦
            let p = to_parts k n x y r in
            (omega (arith, p.0), p.1, subst (λ (z : ℕ). test z y ≡ true) (sym p.0) p.2)
      ]

  -- a pair of theirs that passes is in the list
  below_from : (n k e f : ℕ) → e < k → f < n → test e f ≡ true → Occurs (pairs_below test n k) (e, f)
  below_from n zero e f e_in f_in h = absurd (omega arith)
  below_from n (suc k) e f e_in f_in h =
      let one : k + 1 ≡ suc k = omega arith in
      subst (λ (l : List (ℕ × ℕ)). Occurs l (e, f)) (sym (below_more test n k) ∙ ap (λ (m : ℕ). pairs_below test n m) one)
      (elim (cases_eq e k) [
        | inl same ↦ in_right (pairs_below test n k) (pairs_to test k n) (e, f)
            (subst (λ (z : ℕ). Occurs (pairs_to test z n) (e, f)) same (to_from e n f f_in h))
        | inr other ↦ in_left (pairs_below test n k) (pairs_to test k n) (e, f) (below_from n k e f (omega (arith, e_in, other)) f_in h)
      ])

  -- the pairs of all numbers are those that pass
  pub of_parts : (n x y : ℕ) → Occurs (pairs_of test n) (x, y) → (x < n) × (y < n) × (test x y ≡ true)
  of_parts n x y h = below_parts n n x y (subst (λ (l : List (ℕ × ℕ)). Occurs l (x, y)) (sym (below_all test n n refl)) h)

  -- and each that passes is in the list
  pub of_from : (n e f : ℕ) → e < n → f < n → test e f ≡ true → Occurs (pairs_of test n) (e, f)
  of_from n e f e_in f_in h = subst (λ (l : List (ℕ × ℕ)). Occurs l (e, f)) (below_all test n n refl) (below_from n n e f e_in f_in h)

-- Counts in lists: by two tests, over a mapped list, in a range, and in parts that add up.
use Rattle.std.proofs.Common.{◌≡◌, ℕ, zero, suc, ◌+◌, ◌<◌, ◌≤◌, ◌&&◌, ◌||◌, Bool, true, false, cond, List, [], ◌∷◌, length, map, filter, refl, sym, ap, ◌∙◌, inl, inr, arith, nat_eq, nat_lt}
use Rattle.std.specs.Prelude.{count_by}
use Rattle.std.specs.List.{range_with_len, sum_by, list_any}
use Rattle.std.proofs.lemmas.Bool.{eq-eqb, ne_eqb, cases_eq, lt-ltb, or_left, or_from}
use Rattle.std.proofs.lemmas.List.{map-id}
use Rattle.std.proofs.lemmas.List.FromFn.{sum_by-map-range_with_len_more}
use Rattle.std.proofs.lemmas.List.Sums.{sum_by-cons}
use Rattle.msc_chart.proofs.ListLemmas.{by_test}

-- a count by one test of what passes another
pub both_tests : (p f : ℕ → Bool) (x : ℕ) (xs : List ℕ)
    → count_by p (filter f (x ∷ xs)) ≡ cond (f x && p x) 1 0 + count_by p (filter f xs)
both_tests p f x xs =
    let c = sum_by-cons (λ y. cond (p y) 1 0) x (filter f xs) in
    by_test (f x)
    (λ yes.
    let is = ap (λ b. count_by p (cond b (x ∷ filter f xs) (filter f xs))) yes in
    let one = ap (λ b. cond {A = ℕ} (b && p x) 1 0) yes in
    omega (arith, c, is, one))
    (λ no.
    let is = ap (λ b. count_by p (cond b (x ∷ filter f xs) (filter f xs))) no in
    let none = ap (λ b. cond {A = ℕ} (b && p x) 1 0) no in
    omega (arith, is, none))

-- a test passes somewhere where its count is positive
pub any_counts : (p : ℕ → Bool) (xs : List ℕ) → list_any p xs ≡ nat_lt 0 (count_by p xs)
any_counts p [] = refl
any_counts p (x ∷ xs) =
    let c = sum_by-cons (λ y. cond (p y) 1 0) x xs in
    by_test (p x)
    (λ yes.
    let one = ap (λ b. cond {A = ℕ} b 1 0) yes in
    or_left (p x) (list_any p xs) yes ∙ sym (lt-ltb 0 _ (omega (arith, c, one))))
    (λ no.
    let none = ap (λ b. cond {A = ℕ} b 1 0) no in
    let same : count_by p (x ∷ xs) ≡ count_by p xs = omega (arith, c, none) in
    ap (λ b. b || list_any p xs) no ∙ any_counts p xs ∙ ap (nat_lt 0) (sym same))

-- a count over a mapped list
pub count_mapped : (p q : ℕ → Bool) (f : ℕ → ℕ) → ((x : ℕ) → p (f x) ≡ q x) → (xs : List ℕ)
    → count_by p (map f xs) ≡ count_by q xs
count_mapped p q f same [] = refl
count_mapped p q f same (x ∷ xs) =
    let a = sum_by-cons (λ y. cond (p y) 1 0) (f x) (map f xs) in
    let b = sum_by-cons (λ y. cond (q y) 1 0) x xs in
    let r = count_mapped p q f same xs in
    let e = ap (λ b. cond {A = ℕ} b 1 0) (same x) in
    omega (arith, a, b, r, e)

-- the first of a filtered range is in the range, and passes
pub first_passes : (f : ℕ → Bool) (a n m : ℕ) (rest : List ℕ)
    → filter f (range_with_len a n) ≡ m ∷ rest → (f m ≡ true) × (m < a + n)
first_passes f a zero m rest is = cc
first_passes f a (suc n) m rest is =
    by_test (f a)
    (λ yes.
    let front : a ∷ filter f (range_with_len (a + 1) n) ≡ m ∷ rest =
    sym (ap (λ b. cond b (a ∷ filter f (range_with_len (a + 1) n))
    (filter f (range_with_len (a + 1) n))) yes) ∙ is in
    let same : a ≡ m = cc in
    (ap f (sym same) ∙ yes, omega arith))
    (λ no.
    let later : filter f (range_with_len (a + 1) n) ≡ m ∷ rest =
    sym (ap (λ b. cond b (a ∷ filter f (range_with_len (a + 1) n))
    (filter f (range_with_len (a + 1) n))) no) ∙ is in
    let r = first_passes f (a + 1) n m rest later in
    (r.0, omega (arith, r.1)))

-- a count where nothing passes
pub count_none : (p : ℕ → Bool) → ((x : ℕ) → p x ≡ false) → (xs : List ℕ) → count_by p xs ≡ 0
count_none p fails [] = refl
count_none p fails (x ∷ xs) =
    let c = sum_by-cons (λ y. cond (p y) 1 0) x xs in
    let r = count_none p fails xs in
    let e = ap (λ b. cond {A = ℕ} b 1 0) (fails x) in
    omega (arith, c, r, e)

-- what passes a test in a range is mapped to one number: a test for another number fails there
module _ (g : ℕ → ℕ) (h : ℕ → Bool) (r i : ℕ) where
  -- so nothing in the range is mapped to that other number
  other_number : (a n : ℕ) → ((m : ℕ) → h m ≡ true → m < a + n → g m ≡ r) → nat_eq r i ≡ false
      → list_any (λ k. nat_eq (g k) i) (filter h (range_with_len a n)) ≡ false
  other_number a zero all fails = refl
  other_number a (suc n) all fails =
      let rest : List ℕ = filter h (range_with_len (a + 1) n) in
      let later = other_number (a + 1) n (λ m passes lt. all m passes (omega arith)) fails in
      by_test (h a)
      (λ yes.
      ap (λ b. list_any (λ k. nat_eq (g k) i) (cond b (a ∷ rest) rest)) yes
      ∙ or_from (nat_eq (g a) i) (list_any (λ k. nat_eq (g k) i) rest)
      (ap (λ x. nat_eq x i) (all a yes (omega arith)) ∙ fails) later)
      (λ gone. ap (λ b. list_any (λ k. nat_eq (g k) i) (cond b (a ∷ rest) rest)) gone ∙ later)

  -- where something is there, the test is one of that number
  pub same_number : (n m : ℕ) (rest : List ℕ) → ((k : ℕ) → h k ≡ true → k < n → g k ≡ r)
      → filter h (range_with_len 0 n) ≡ m ∷ rest
      → list_any (λ k. nat_eq (g k) i) (filter h (range_with_len 0 n)) ≡ nat_eq r i
  same_number n m rest all is =
      let at = first_passes h 0 n m rest is in
      by_test (nat_eq r i)
      (λ yes.
      ap (list_any (λ k. nat_eq (g k) i)) is
      ∙ or_left (nat_eq (g m) i) (list_any (λ k. nat_eq (g k) i) rest)
      (ap (λ x. nat_eq x i) (all m at.0 (omega (arith, at.1))) ∙ yes) ∙ sym yes)
      (λ no. other_number 0 n (λ k passes lt. all k passes (omega arith)) no ∙ sym no)

-- one number more of a range
sum_more : (f : ℕ → ℕ) (n : ℕ) → sum_by f (range_with_len 0 (suc n))
    ≡ sum_by f (range_with_len 0 n) + f n
sum_more f n =
    (let e : suc n ≡ n + 1 = omega arith in ap (λ (k : ℕ). sum_by f (range_with_len 0 k)) e)
    ∙ ap (sum_by f) (sym (map-id (range_with_len 0 (n + 1))))
    ∙ sum_by-map-range_with_len_more f (λ x. x) 0 n n (omega arith)
    ∙ ap (λ (l : List ℕ). sum_by f l + f n) (map-id (range_with_len 0 n))

-- 1 where the numbers are equal
is_one : ℕ → ℕ → ℕ
is_one k i = cond (nat_eq k i) 1 0

-- none of the numbers below n is k, where k is not below n
none_is : (k n : ℕ) → n ≤ k → sum_by (is_one k) (range_with_len 0 n) ≡ 0
unfolding is_one
none_is k zero le = omega arith
none_is k (suc n) le =
    let r = none_is k n (omega arith) in
    let m = sum_more (is_one k) n in
    let z : is_one k n ≡ 0 = ap (λ b. cond {A = ℕ} b 1 0) (ne_eqb k n (λ e. omega arith)) in
    omega (arith, r, m, z)

-- at most one of the numbers below n is k
one_is : (k n : ℕ) → sum_by (is_one k) (range_with_len 0 n) ≤ 1
unfolding is_one
one_is k zero = omega arith
one_is k (suc n) =
    let m = sum_more (is_one k) n in
    elim (cases_eq k n) [
      | inl is ↦
          let r = none_is k n (omega arith) in
          let z : is_one k n ≡ 1 = ap (λ b. cond {A = ℕ} b 1 0) (eq-eqb k n is) in
          omega (arith, r, m, z)
      | inr other ↦
          let r = one_is k n in
          let z : is_one k n ≡ 0 = ap (λ b. cond {A = ℕ} b 1 0) (ne_eqb k n other) in
          omega (arith, r, m, z)
    ]

-- a sum of sums
sum_both : (f g h : ℕ → ℕ) (xs : List ℕ) → ((i : ℕ) → h i ≡ f i + g i)
    → sum_by h xs ≡ sum_by f xs + sum_by g xs
sum_both f g h [] e = omega arith
sum_both f g h (x ∷ xs) e =
    let r = sum_both f g h xs e in
    omega (arith, r, e x, sum_by-cons f x xs, sum_by-cons g x xs, sum_by-cons h x xs)

-- nothing adds up to nothing
zeros : (n : ℕ) → sum_by (λ (i : ℕ). 0) (range_with_len 0 n) ≡ 0
zeros zero = refl
zeros (suc n) = let r = zeros n in omega (arith, r, sum_more (λ i. 0) n)

-- sorted by a number below n, a list falls into parts
pub parts_add_up : (g : ℕ → ℕ) (n : ℕ) (ms : List ℕ)
    → sum_by (λ i. count_by (λ m. nat_eq (g m) i) ms) (range_with_len 0 n) ≤ length ms
unfolding is_one
parts_add_up g n [] = omega (arith, zeros n)
parts_add_up g n (m ∷ ms) =
    let r = parts_add_up g n ms in
    let one = one_is (g m) n in
    let both = sum_both (is_one (g m)) (λ i. count_by (λ k. nat_eq (g k) i) ms)
    (λ i. count_by (λ k. nat_eq (g k) i) (m ∷ ms)) (range_with_len 0 n)
    (λ i. sum_by-cons (λ k. cond (nat_eq (g k) i) 1 0) m ms) in
    omega (arith, r, one, both)

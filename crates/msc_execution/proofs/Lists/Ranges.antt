-- Ranges of numbers and their filters.
use Rattle.std.proofs.Common.{◌≡◌, ℕ, zero, suc, ◌+◌, ◌<◌, ◌≤◌, Bool, true, false, cond, ◌||◌, eqb, List, [], ◌∷◌, ◌++◌, length, filter, refl, sym, ap, ◌∙◌, inl, inr, arith, subst, true≢false}
use Rattle.std.specs.Prelude.{count_by, nat_lt}
use Rattle.std.specs.List.{range_with_len, sum_by, list_any}
use Rattle.std.proofs.lemmas.List.{map-id}
use Rattle.std.proofs.lemmas.List.FromFn.{filter_of_map_range_with_len_more, sum_by-map-range_with_len_more}
use Rattle.std.proofs.lemmas.Bool.{eq-eqb, eqb-true, ne_eqb, or_left, cases_lt}
use Rattle.msc_chart.specs.Lists.{occurs}
use Rattle.msc_chart.proofs.ListLemmas.{by_test, clash, occurs-head, occurs-tail}
use Rattle.msc_execution.proofs.Lists.Words.{head_or_tail, in_none, filter_yes, filter_no, fails}

-- a filter of a filter, at one number
pub twice_yes : (p : ℕ → Bool) (q : ℕ) (xs : List ℕ) → p q ≡ true
    → filter (λ x. eqb x q) (filter p xs) ≡ filter (λ x. eqb x q) xs
twice_yes p q [] h = refl
twice_yes p q (x ∷ xs) h =
    let r = twice_yes p q xs h in
    by_test (p x)
    (λ yes. ap (filter (λ k. eqb k q)) (filter_yes p x xs yes)
    ∙ ap (λ (l : List ℕ). cond (eqb x q) (x ∷ l) l) r)
    (λ no.
    let other : eqb x q ≡ false =
    fails (eqb x q) (λ is. clash
    (subst (λ (y : ℕ). p y ≡ true) (sym (eqb-true x q is)) h) no) in
    ap (filter (λ k. eqb k q)) (filter_no p x xs no) ∙ r
    ∙ sym (filter_no (λ k. eqb k q) x xs other))

-- nothing is left of a number that fails
pub twice_no : (p : ℕ → Bool) (q : ℕ) (xs : List ℕ) → p q ≡ false
    → filter (λ x. eqb x q) (filter p xs) ≡ []
twice_no p q [] h = refl
twice_no p q (x ∷ xs) h =
    let r = twice_no p q xs h in
    by_test (p x)
    (λ yes.
    let other : eqb x q ≡ false =
    fails (eqb x q) (λ is. clash (subst (λ (y : ℕ). p y ≡ true) (eqb-true x q is) yes) h) in
    ap (filter (λ k. eqb k q)) (filter_yes p x xs yes)
    ∙ filter_no (λ k. eqb k q) x (filter p xs) other ∙ r)
    (λ no. ap (filter (λ k. eqb k q)) (filter_no p x xs no) ∙ r)

-- a number below a range is not in it
pub none_of_range : (q a n : ℕ) → q < a → filter (λ x. eqb x q) (range_with_len a n) ≡ []
none_of_range q a zero lt = refl
none_of_range q a (suc n) lt =
    filter_no (λ x. eqb x q) a (range_with_len (a + 1) n) (ne_eqb a q (λ e. omega arith))
    ∙ none_of_range q (a + 1) n (omega arith)

-- a number of a range stands there once
pub one_of_range : (q a n : ℕ) → a ≤ q → q < a + n
    → filter (λ x. eqb x q) (range_with_len a n) ≡ q ∷ []
one_of_range q a zero le lt = absurd (omega arith)
one_of_range q a (suc n) le lt = elim (cases_lt a q) [
  | inl less ↦
      filter_no (λ x. eqb x q) a (range_with_len (a + 1) n) (ne_eqb a q (λ e. omega arith))
      ∙ one_of_range q (a + 1) n (omega arith) (omega arith)
  | inr ge ↦
      let same : a ≡ q = omega arith in
      filter_yes (λ x. eqb x q) a (range_with_len (a + 1) n) (eq-eqb a q same)
      ∙ ap (λ (l : List ℕ). a ∷ l) (none_of_range q (a + 1) n (omega arith))
      ∙ ap (λ (k : ℕ). k ∷ []) same
]

-- what is in a range is within its bounds
pub in_range : (a n e : ℕ) → occurs (range_with_len a n) e ≡ true → (a ≤ e) × (e < a + n)
in_range a zero e h = in_none e h
in_range a (suc n) e h = elim (head_or_tail a (range_with_len (a + 1) n) e h) [
  | inl is ↦ (omega arith, omega arith)
  | inr later ↦ (let r = in_range (a + 1) n e later in (omega (arith, r.0), omega (arith, r.1)))
]

-- and what is within them is in it
pub range_has : (a n e : ℕ) → a ≤ e → e < a + n → occurs (range_with_len a n) e ≡ true
range_has a zero e le lt = absurd (omega arith)
range_has a (suc n) e le lt = elim (cases_lt a e) [
  | inl less ↦ occurs-tail a (range_with_len (a + 1) n) e
      (range_has (a + 1) n e (omega arith) (omega arith))
  | inr ge ↦
      let same : a ≡ e = omega arith in
      subst (λ (k : ℕ). occurs (a ∷ range_with_len (a + 1) n) k ≡ true) same
      (occurs-head a (range_with_len (a + 1) n))
]

-- tests that agree keep the same
pub same_filter : (p g : ℕ → Bool) → ((x : ℕ) → p x ≡ g x) → (xs : List ℕ)
    → filter p xs ≡ filter g xs
same_filter p g same [] = refl
same_filter p g same (x ∷ xs) =
    ap (λ (b : Bool). cond b (x ∷ filter p xs) (filter p xs)) (same x)
    ∙ ap (λ (l : List ℕ). cond (g x) (x ∷ l) l) (same_filter p g same xs)

-- one number more of a range
pub filter_more : (p : ℕ → Bool) (n : ℕ)
    → filter p (range_with_len 0 (suc n)) ≡ filter p (range_with_len 0 n) ++ cond (p n) (n ∷ []) []
filter_more p n =
    (let e : suc n ≡ n + 1 = omega arith in ap (λ (k : ℕ). filter p (range_with_len 0 k)) e)
    ∙ ap (filter p) (sym (map-id (range_with_len 0 (n + 1))))
    ∙ filter_of_map_range_with_len_more p (λ x. x) 0 n n (omega arith)
    ∙ ap (λ (l : List ℕ). filter p l ++ cond (p n) (n ∷ []) []) (map-id (range_with_len 0 n))

-- the same, counted
pub count_more : (p : ℕ → Bool) (n : ℕ)
    → count_by p (range_with_len 0 (n + 1)) ≡ count_by p (range_with_len 0 n) + cond (p n) 1 0
count_more p n =
    let f : ℕ → ℕ = λ i. cond (p i) 1 0 in
    ap (sum_by f) (sym (map-id (range_with_len 0 (n + 1))))
    ∙ sum_by-map-range_with_len_more f (λ x. x) 0 n n (omega arith)
    ∙ ap (λ (l : List ℕ). sum_by f l + f n) (map-id (range_with_len 0 n))

-- where all messages have one receiver, a test for some receiver is a test for it
pub any_none : (f : ℕ → ℕ) (r i : ℕ) (ms : List ℕ) → ((m : ℕ) → occurs ms m ≡ true → f m ≡ r)
    → eqb i r ≡ false → list_any (λ m. eqb (f m) i) ms ≡ false
any_none f r i [] all fail = refl
any_none f r i (m ∷ ms) all fail =
    let other : eqb (f m) i ≡ false = fails (eqb (f m) i) (λ is.
    clash (eq-eqb i r (sym (eqb-true (f m) i is) ∙ all m (occurs-head m ms))) fail) in
    ap (λ (b : Bool). b || list_any (λ k. eqb (f k) i) ms) other
    ∙ any_none f r i ms (λ k h. all k (occurs-tail m ms k h)) fail

-- so a test for some receiver is a test for the one
pub any_same : (f : ℕ → ℕ) (r i m : ℕ) (ms : List ℕ)
    → ((k : ℕ) → occurs (m ∷ ms) k ≡ true → f k ≡ r)
    → list_any (λ k. eqb (f k) i) (m ∷ ms) ≡ eqb i r
any_same f r i m ms all =
    by_test (eqb i r)
    (λ yes. or_left (eqb (f m) i) (list_any (λ k. eqb (f k) i) ms)
    (eq-eqb (f m) i (all m (occurs-head m ms) ∙ sym (eqb-true i r yes))) ∙ sym yes)
    (λ no. any_none f r i (m ∷ ms) all no ∙ sym no)

-- a list that is not empty has a head
pub some_first : (ms : List ℕ) → nat_lt 0 (length ms) ≡ true
    → (m : ℕ) × (rest : List ℕ) × (ms ≡ m ∷ rest)
some_first [] h = absurd (true≢false (sym h))
some_first (m ∷ ms) h = (m, ms, refl)

-- What came back of all instances, queue by queue: nothing is lost, and nothing is added.
use Rattle.std.proofs.Common.{map, ◌≡◌, ℕ, zero, suc, ◌<◌, true, eqb, List, [], ◌∷◌, ◌++◌, Some, slice_get, inl, inr, ap, subst, arith}
use Rattle.std.proofs.lemmas.Bool.{eqb-true, eq-eqb, cases_eq}
use Rattle.msc_chart.proofs.ListLemmas.{by_test, occurs-head, occurs-tail}
use Rattle.msc_chart.specs.Lists.{occurs, Occurs}
use Rattle.msc_fifo.specs.declared.accounts.Settled.{Settled}
use Rattle.msc_execution.proofs.Lists.Words.{head_or_tail, in_none}
use Rattle.msc_execution.specs.Settling.{of_queue}
use Rattle.msc_fifo.proofs.PlaceLemmas.{among_more}
use Rattle.msc_execution.proofs.Lists.Among.{among_front, among_cases}
use Rattle.msc_execution.proofs.Settling.Came.{together}

-- what is among the rest is among the whole
among_back : {A : Type 0} (xs ys : List A) (y : A) → Occurs ys y → Occurs (xs ++ ys) y
among_back [] ys y h = h
among_back (x ∷ xs) ys y h = among_more x y (xs ++ ys) (among_back xs ys y h)

-- what is in the list of an instance is in all of them together
in_all : {A : Type 0} (f : ℕ → List A) (n i : ℕ) (x : A) → i < n → Occurs (f i) x
    → Occurs (together f n) x
in_all f zero i x below h = absurd (omega arith)
in_all {A} f (suc n) i x below h =
    elim (cases_eq i n) [
      | inl same ↦ among_back (together f n) (f n) x (subst (λ (j : ℕ). Occurs (f j) x) same h)
      | inr other ↦ let r = in_all f n i x (omega arith) h in
          (r.0, among_front (together f n) (f n) x r.0 r.1)
    ]

-- and what is in all of them is in the list of one
of_all : {A : Type 0} (f : ℕ → List A) (n : ℕ) (x : A) (k : ℕ) → slice_get (together f n) k ≡ Some x
    → (i : ℕ) × (i < n) × Occurs (f i) x
of_all f zero x k h = cc
of_all f (suc n) x k h =
    elim (among_cases (together f n) (f n) x k h) [
      | inl early ↦ let r = of_all f n x early.0 early.1 in (r.0, omega (arith, r.1), r.2)
      | inr late ↦ (n, omega arith, late)
    ]

-- what has number q is of queue q
in_queue : {A : Type 0} (q : ℕ) (xs : List (ℕ × A)) (o : A) (k : ℕ) → slice_get xs k ≡ Some (q, o)
    → Occurs (of_queue q xs) o
in_queue q [] o k h = cc
in_queue {A} q (x ∷ xs) o zero h =
    let same : x ≡ (q, o) = cc in
    let number : eqb x.0 q ≡ true = eq-eqb x.0 q (ap (λ (z : ℕ × A). z.0) same) in
    rw number (0, ap (λ (z : ℕ × A). Some z.1) same)
in_queue q (x ∷ xs) o (suc k) h =
    let r = in_queue q xs o k h in
    by_test (eqb x.0 q) (λ yes. rw yes (among_more x.1 o (of_queue q xs) r)) (λ no. rw no r)

-- what is of queue q is the head or later
head_or_later : {A : Type 0} (q : ℕ) (x : ℕ × A) (xs : List (ℕ × A)) (o : A) (k : ℕ)
    → slice_get (x.1 ∷ of_queue q xs) k ≡ Some o → x.0 ≡ q
    → ((j : ℕ) → slice_get (of_queue q xs) j ≡ Some o → Occurs xs (q, o)) → Occurs (x ∷ xs) (q, o)
head_or_later q x xs o zero at number later = let same : x.1 ≡ o = cc in
    (0, (λ j. Some (number j, same j)))
head_or_later q x xs o (suc k) at number later = among_more x (q, o) xs (later k at)

-- what is of queue q has number q
of_of_queue : {A : Type 0} (q : ℕ) (xs : List (ℕ × A)) (o : A) (k : ℕ)
    → slice_get (of_queue q xs) k ≡ Some o → Occurs xs (q, o)
of_of_queue q [] o k h = cc
of_of_queue q (x ∷ xs) o k h =
    by_test (eqb x.0 q)
    (λ yes. head_or_later q x xs o k (rw yes at h) (eqb-true x.0 q yes)
    (λ j at. of_of_queue q xs o j at))
    (λ no. among_more x (q, o) xs (of_of_queue q xs o k (rw no at h)))

-- what came back of an instance is among the ends of its queue
pub bucket_has : {A : Type 0} (f : ℕ → List (ℕ × A)) (n q i : ℕ) (o : A)
    → i < n → Occurs (f i) (q, o) → Occurs (of_queue q (together f n)) o
bucket_has f n q i o below h = let r = in_all f n i (q, o) below h in
    in_queue q (together f n) o r.0 r.1

-- and what is among them came back of an instance
pub bucket_of : {A : Type 0} (f : ℕ → List (ℕ × A)) (n q : ℕ) (o : A)
    → Occurs (of_queue q (together f n)) o → (i : ℕ) × (i < n) × Occurs (f i) (q, o)
bucket_of f n q o h = let r = of_of_queue q (together f n) o h.0 h.1 in of_all f n (q, o) r.0 r.1

-- the settled queue with a number
pub find : (q : ℕ) (xs : List (ℕ × Settled)) → occurs (map (λ (s : ℕ × Settled). s.0) xs) q ≡ true
    → (s : Settled) × Occurs xs (q, s)
find q [] h = in_none q h
find q (x ∷ xs) h = elim (head_or_tail x.0 (map (λ (s : ℕ × Settled). s.0) xs) q h) [
  | inl is ↦ (x.1, (zero, ap (λ (k : ℕ). Some (k, x.1)) is))
  | inr later ↦ (let r = find q xs later in (r.0, (suc r.1.0, r.1.1)))
]

-- a settled queue has one of the numbers
pub numbered : (q : ℕ) (s : Settled) (xs : List (ℕ × Settled)) (j : ℕ)
    → slice_get xs j ≡ Some (q, s) → occurs (map (λ (s : ℕ × Settled). s.0) xs) q ≡ true
numbered q s [] j at = cc
numbered q s (x ∷ xs) zero at =
    let same : x.0 ≡ q = (let e : x ≡ (q, s) = cc in ap (λ (y : ℕ × Settled). y.0) e) in
    subst (λ (k : ℕ). occurs (x.0 ∷ map (λ (s : ℕ × Settled). s.0) xs) k ≡ true) same
    (occurs-head x.0 (map (λ (s : ℕ × Settled). s.0) xs))
numbered q s (x ∷ xs) (suc j) at =
    occurs-tail x.0 (map (λ (s : ℕ × Settled). s.0) xs) q (numbered q s xs j at)

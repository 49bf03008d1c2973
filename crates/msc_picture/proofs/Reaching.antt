-- The range of places whose items pass a test, from the first to the last.
use Rattle.std.proofs.Common.{◌≡◌, ℕ, zero, suc, ◌+◌, ◌<◌, ◌≤◌, ◌⊎◌, Bool, true, List, [], ◌∷◌, Option, None, Some, inl, inr, sym, ap, subst, ◌∙◌, refl, arith}
use Rattle.std.specs.Prelude.{slice_get}
use Rattle.msc_chart.proofs.ListLemmas.{by_test}
use Rattle.msc_picture.specs.Rows.{grown, reach_from}

-- a range of places has place k
unfoldable pub Reaches : Option (ℕ × ℕ) → ℕ → Type 0
Reaches None k = ⊥
Reaches (Some p) k = (p.0 ≤ k) × (k ≤ p.1)

-- a range begins before place k, where there is one
unfoldable pub Begins : Option (ℕ × ℕ) → ℕ → Type 0
Begins None k = Unit {0}
Begins (Some p) k = p.0 < k

-- a range that goes on keeps its places
reach_kept : {X : Type 0} (test : X → Bool) (reach : Option (ℕ × ℕ)) (k j : ℕ) (xs : List X)
    → Reaches reach j → j < k → Reaches (reach_from test reach k xs) j
unfolding Reaches
reach_kept test reach k j [] h less = h
reach_kept test None k j (x ∷ xs) h less = absurd h
reach_kept test (Some p) k j (x ∷ xs) h less = by_test (test x)
    (λ yes. rw yes (reach_kept test (Some (p.0, k)) (k + 1) j xs
    (h.0, omega (arith, less)) (omega arith)))
    (λ no. rw no (reach_kept test (Some p) (k + 1) j xs h (omega arith)))

-- a range with place k has it
grown_reaches : (reach : Option (ℕ × ℕ)) (k : ℕ) → Begins reach k → Reaches (Some (grown reach k)) k
unfolding Reaches Begins
grown_reaches None k within = (omega arith, omega arith)
grown_reaches (Some p) k within = (omega (arith, within), omega arith)

-- and begins before the next place
grown_begins : (reach : Option (ℕ × ℕ)) (k : ℕ) → Begins reach k → Begins (Some (grown reach k)) (k + 1)
unfolding Begins
grown_begins None k within = omega arith
grown_begins (Some p) k within = omega (arith, within)

-- as does a range without it
begins_on : (reach : Option (ℕ × ℕ)) (k : ℕ) → Begins reach k → Begins reach (k + 1)
unfolding Begins
begins_on None k within = tt
begins_on (Some p) k within = omega (arith, within)

-- a place whose item passes is in the range
pub reach_has : {X : Type 0} (test : X → Bool) (reach : Option (ℕ × ℕ)) (k i : ℕ) (xs : List X) (x : X)
    → Begins reach k → slice_get xs i ≡ Some x → test x ≡ true
    → Reaches (reach_from test reach k xs) (k + i)
reach_has test reach k i [] x within at passes = let f : ⊥ = cc in absurd f
reach_has {X} test reach k zero (y ∷ ys) x within at passes =
    let same : y ≡ x = cc in
    let yes : test y ≡ true = ap test same ∙ passes in
    let here : k ≡ k + 0 = omega arith in
    rw yes (subst (λ (j : ℕ). Reaches (reach_from test (Some (grown reach k)) (k + 1) ys) j) here
    (reach_kept test (Some (grown reach k)) (k + 1) k ys (grown_reaches reach k within) (omega arith)))
reach_has {X} test reach k (suc i) (y ∷ ys) x within at passes =
    let there : (k + 1) + i ≡ k + suc i = omega arith in
    by_test (test y)
    (λ yes. rw yes (subst (λ (j : ℕ). Reaches (reach_from test (Some (grown reach k)) (k + 1) ys) j)
    there (reach_has test (Some (grown reach k)) (k + 1) i ys x (grown_begins reach k within) at
    passes)))
    (λ no. rw no (subst (λ (j : ℕ). Reaches (reach_from test reach (k + 1) ys) j) there
    (reach_has test reach (k + 1) i ys x (begins_on reach k within) at passes)))

-- at place k of some items one stands that passes; the first of the items has this place
unfoldable pub Passes : {X : Type 0} → (X → Bool) → List X → ℕ → ℕ → Type 0
Passes {X} test xs start k =
    (i : ℕ) × (x : X) × (k ≡ start + i) × (slice_get xs i ≡ Some x) × (test x ≡ true)

-- both ends of a range pass, or are those of an earlier range
unfoldable pub EndsPass : {X : Type 0} → (X → Bool) → Option (ℕ × ℕ) → List X → ℕ → Option (ℕ × ℕ) → Type 0
EndsPass test reach xs start None = Unit {0}
EndsPass test reach xs start (Some p) =
    (Passes test xs start p.0 ⊎ ((q : ℕ × ℕ) × (reach ≡ Some q) × (p.0 ≡ q.0)))
    × (Passes test xs start p.1 ⊎ ((q : ℕ × ℕ) × (reach ≡ Some q) × (p.1 ≡ q.1)))

-- a place of later items is one of all
passes_later : {X : Type 0} (test : X → Bool) (x : X) (xs : List X) (start k : ℕ)
    → Passes test xs (start + 1) k → Passes test (x ∷ xs) start k
unfolding Passes
passes_later test x xs start k h =
    (suc h.0, h.1, omega (arith, h.2), h.3, h.4)

-- the place of the first item, which passes
passes_here : {X : Type 0} (test : X → Bool) (x : X) (xs : List X) (start : ℕ) → test x ≡ true
    → Passes test (x ∷ xs) start start
unfolding Passes
passes_here test x xs start h = (0, x, omega arith, refl, h)

-- the ends after one more item that passes
ends_more : {X : Type 0} (test : X → Bool) (reach : Option (ℕ × ℕ)) (x : X) (xs : List X) (start : ℕ)
    (o : Option (ℕ × ℕ)) → test x ≡ true
    → EndsPass test (Some (grown reach start)) xs (start + 1) o
    → EndsPass test reach (x ∷ xs) start o
unfolding EndsPass
ends_more test reach x xs start None passes h = tt
ends_more test None x xs start (Some p) passes h = (
  elim h.0 [
    | inl later ↦ inl (passes_later test x xs start p.0 later)
    | inr same ↦
        let is : p.0 ≡ start = let e : (start, start) ≡ same.0 = cc in
        same.2 ∙ ap (λ (q : ℕ × ℕ). q.0) (sym e) in
        inl (subst (λ (j : ℕ). Passes test (x ∷ xs) start j) (sym is) (passes_here test x xs start passes))
  ],
  elim h.1 [
    | inl later ↦ inl (passes_later test x xs start p.1 later)
    | inr same ↦
        let is : p.1 ≡ start = let e : (start, start) ≡ same.0 = cc in
        same.2 ∙ ap (λ (q : ℕ × ℕ). q.1) (sym e) in
        inl (subst (λ (j : ℕ). Passes test (x ∷ xs) start j) (sym is) (passes_here test x xs start passes))
  ],
)
ends_more test (Some r) x xs start (Some p) passes h = (
  elim h.0 [
    | inl later ↦ inl (passes_later test x xs start p.0 later)
    | inr same ↦
        let is : p.0 ≡ r.0 = let e : (r.0, start) ≡ same.0 = cc in
        same.2 ∙ ap (λ (q : ℕ × ℕ). q.0) (sym e) in
        inr (r, refl, is)
  ],
  elim h.1 [
    | inl later ↦ inl (passes_later test x xs start p.1 later)
    | inr same ↦
        let is : p.1 ≡ start = let e : (r.0, start) ≡ same.0 = cc in
        same.2 ∙ ap (λ (q : ℕ × ℕ). q.1) (sym e) in
        inl (subst (λ (j : ℕ). Passes test (x ∷ xs) start j) (sym is) (passes_here test x xs start passes))
  ],
)

-- and after one that does not
ends_same : {X : Type 0} (test : X → Bool) (reach : Option (ℕ × ℕ)) (x : X) (xs : List X) (start : ℕ)
    (o : Option (ℕ × ℕ)) → EndsPass test reach xs (start + 1) o → EndsPass test reach (x ∷ xs) start o
unfolding EndsPass
ends_same test reach x xs start None h = tt
ends_same test reach x xs start (Some p) h = (
  elim h.0 [
    | inl later ↦ inl (passes_later test x xs start p.0 later)
    | inr same ↦ inr same
  ],
  elim h.1 [
    | inl later ↦ inl (passes_later test x xs start p.1 later)
    | inr same ↦ inr same
  ],
)

-- the ends of a range of items
pub reach_ends : {X : Type 0} (test : X → Bool) (reach : Option (ℕ × ℕ)) (start : ℕ) (xs : List X)
    → EndsPass test reach xs start (reach_from test reach start xs)
unfolding EndsPass
reach_ends test None start [] = tt
reach_ends test (Some p) start [] = (inr (p, refl, refl), inr (p, refl, refl))
reach_ends {X} test reach start (x ∷ xs) = by_test (test x)
    (λ yes. rw yes (ends_more test reach x xs start
    (reach_from test (Some (grown reach start)) (start + 1) xs) yes
    (reach_ends test (Some (grown reach start)) (start + 1) xs)))
    (λ no. rw no (ends_same test reach x xs start (reach_from test reach (start + 1) xs)
    (reach_ends test reach (start + 1) xs)))

-- Paths as lists: a ring goes through the start of each path that leads back to it, and a ring is
-- such a path.
use Rattle.std.proofs.Common.{◌≡◌, ◌≢◌, ℕ, zero, suc, ◌+◌, ◌-◌, ◌<◌, ◌≤◌, Bool, true, inl, inr, List, [], ◌∷◌, ◌++◌, length, get_or, refl, sym, ap, ◌∙◌, subst, add-one, arith}
use Rattle.std.proofs.lemmas.Bool.{cases_lt}
use Rattle.msc_chart.specs.Lists.{occurs}
use Rattle.msc_follow.specs.Paths.{Path, HasNoClosedPath}
use Rattle.rings.specs.Rings.{IsRing, HasNoRing}
use Rattle.msc_follow.proofs.Shared.{by_test, clash, head_or_behind, occurs_at, IsDistinct}

module _ (leads : ℕ → ℕ → Bool) where
  -- from x each number of the list leads to the next, and the last to y
  abbrev pub Chain : ℕ → List ℕ → ℕ → Type 0
  Chain x [] y = leads x y ≡ true
  Chain x (z ∷ zs) y = (leads x z ≡ true) × Chain z zs y

  -- two chains are joined
  chain_join : (x m y : ℕ) (xs ys : List ℕ) → Chain x xs m → Chain m ys y → Chain x (xs ++ m ∷ ys) y
  chain_join x m y [] ys h k = (h, k)
  chain_join x m y (z ∷ zs) ys h k = (h.0, chain_join z m y zs ys h.1 k)

  -- a path is a chain
  path_chain : (x y : ℕ) → Path leads x y → (xs : List ℕ) × Chain x xs y
  path_chain x y (Path.step h) = ([], h)
  path_chain x y (Path.joined {y = m} h k) =
      let a = path_chain x m h in
      let b = path_chain m y k in
      (a.0 ++ m ∷ b.0, chain_join x m y a.0 b.0 a.1 b.1)

  -- a chain from x, in which x and its numbers are different
  abbrev Short : ℕ → ℕ → Type 0
  Short x y = (ys : List ℕ) × Chain x ys y × IsDistinct (x ∷ ys)

  -- a chain of different numbers goes on from each of them as such a chain
  chain_from : (x z y : ℕ) (zs : List ℕ) → Chain z zs y → IsDistinct (z ∷ zs) → occurs (z ∷ zs) x ≡ true → Short x y
  unfolding occurs
  chain_from x z y [] chain once there = elim (head_or_behind z [] x there) [
    | inl same ↦ subst (λ (w : ℕ). Short w y) same ([], chain, once)
    | inr later ↦ clash later refl
  ]
  chain_from x z y (w ∷ ws) chain once there = elim (head_or_behind z (w ∷ ws) x there) [
    | inl same ↦ subst (λ (w : ℕ). Short w y) same (w ∷ ws, chain, once)
    | inr later ↦ chain_from x w y ws chain.1 once.1 later
  ]

  -- repetitions are cut out of a chain
  shorten : (x y : ℕ) (xs : List ℕ) → Chain x xs y → Short x y
  unfolding occurs
  shorten x y [] h = ([], h, (refl, tt))
  shorten x y (z ∷ zs) h =
      let s = shorten z y zs h.1 in
      by_test (occurs (z ∷ s.0) x) (λ there. chain_from x z y s.0 s.1 s.2 there) (λ new. (z ∷ s.0, (h.0, s.1), (new, s.2)))

  -- each number of a chain leads to the next
  chain_steps : (x y : ℕ) (xs : List ℕ) → Chain x xs y → (k : ℕ) → suc k < length (x ∷ xs)
      → leads (get_or (x ∷ xs) k 0) (get_or (x ∷ xs) (suc k) 0) ≡ true
  chain_steps x y [] chain k h = absurd (omega (arith, h))
  chain_steps x y (z ∷ zs) chain zero h = chain.0
  chain_steps x y (z ∷ zs) chain (suc k) h = chain_steps z y zs chain.1 k (omega (arith, h))

  -- the last number of a chain leads to its end
  chain_ends : (x y : ℕ) (xs : List ℕ) → Chain x xs y → leads (get_or (x ∷ xs) (length xs) 0) y ≡ true
  chain_ends x y [] chain = chain
  chain_ends x y (z ∷ zs) chain = chain_ends z y zs chain.1

  -- different numbers stand at different places
  distinct_at : (xs : List ℕ) → IsDistinct xs → (i k : ℕ) → i < k → k < length xs → get_or xs i 0 ≢ get_or xs k 0
  distinct_at [] once i k less h same = omega (arith, h)
  distinct_at (x ∷ xs) once i zero less h same = omega (arith, less)
  distinct_at (x ∷ xs) once zero (suc k) less h same =
      clash (subst (λ (z : ℕ). occurs xs z ≡ true) (sym same) (occurs_at xs k (omega (arith, h)))) once.0
  distinct_at (x ∷ xs) once (suc i) (suc k) less h same =
      distinct_at xs once.1 i k (omega (arith, less)) (omega (arith, h)) same

  module _ (n : ℕ) (within : (x y : ℕ) → leads x y ≡ true → x < n) where
    -- the numbers of a closed chain are below n
    chain_within : (x y : ℕ) (xs : List ℕ) → Chain x xs y → (k : ℕ) → k < length (x ∷ xs) → get_or (x ∷ xs) k 0 < n
    chain_within x y [] chain zero h = within x y chain
    chain_within x y [] chain (suc k) h = absurd (omega (arith, h))
    chain_within x y (z ∷ zs) chain zero h = within x z chain.0
    chain_within x y (z ∷ zs) chain (suc k) h = chain_within z y zs chain.1 k (omega (arith, h))

    -- a chain of different numbers back to its start is a ring
    chain_ring : (e : ℕ) (xs : List ℕ) → Chain e xs e → IsDistinct (e ∷ xs) → IsRing leads n e (e ∷ xs)
    chain_ring e xs chain once = record {
      some = omega arith;
      begins = refl;
      inside = chain_within e e xs chain;
      steps = λ k h. rw add-one (chain_steps e e xs chain k (omega (arith, h)));
      closes =
          let last : length xs ≡ length (e ∷ xs) - 1 = omega arith in
          subst (λ (k : ℕ). leads (get_or (e ∷ xs) k 0) e ≡ true) last (chain_ends e e xs chain);
      once = distinct_at (e ∷ xs) once;
    }

    -- if a path leads back to its start, a ring goes through it
    pub ring_of_path : (e : ℕ) → Path leads e e → (ring : List ℕ) × IsRing leads n e ring
    ring_of_path e path =
        let chain = path_chain e e path in
        let short = shorten e e chain.0 chain.1 in
        (e ∷ short.0, chain_ring e short.0 short.1 short.2)

    -- so without rings no path leads back
    pub no_closed_path : ((start : ℕ) → HasNoRing leads n start) → HasNoClosedPath leads
    no_closed_path none e path = let ring = ring_of_path e path in none e ring.0 ring.1

module _ (leads : ℕ → ℕ → Bool) (n start : ℕ) (ring : List ℕ) (is_ring : IsRing leads n start ring) where
  -- from each number of a ring a path leads to its start
  path_on : (j k : ℕ) → k + j + 1 ≡ length ring → Path leads (get_or ring k 0) start
  path_on zero k e =
      let last : length ring - 1 ≡ k = omega (arith, e) in
      Path.step (subst (λ (i : ℕ). leads (get_or ring i 0) start ≡ true) last is_ring.closes)
  path_on (suc j) k e =
      Path.joined (Path.step (is_ring.steps k (omega (arith, e)))) (path_on j (k + 1) (omega (arith, e)))

  -- so a ring is a path back to its start
  pub path_of_ring : Path leads start start
  path_of_ring =
      let some = is_ring.some in
      subst (λ (z : ℕ). Path leads z start) is_ring.begins (path_on (length ring - 1) 0 (omega (arith, some)))

  -- and has at least two numbers, if none leads to itself
  pub ring_several : ((x : ℕ) → leads x x ≡ true → ⊥) → 2 ≤ length ring
  ring_several elsewhere =
      let some = is_ring.some in
      elim (cases_lt 1 (length ring)) [
        | inl more ↦ omega (arith, more)
        | inr one ↦
            let last : length ring - 1 ≡ 0 = omega (arith, one) in
            absurd (elsewhere start (subst (λ (z : ℕ). leads z start ≡ true) (ap (λ (i : ℕ). get_or ring i 0) last ∙ is_ring.begins) is_ring.closes))
      ]

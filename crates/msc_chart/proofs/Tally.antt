-- How many numbers pass a test: at most as many as there are values that they have one by one.
use Rattle.std.proofs.Common.{◌≡◌, ℕ, zero, suc, ◌+◌, ◌-◌, ◌<◌, ◌≤◌, Bool, true, cond, List, [], ◌∷◌, length, get_or, take, inl, inr, refl, sym, ap, arith}
use Rattle.std.specs.Prelude.{count_by, nat_lt}
use Rattle.std.proofs.lemmas.Bool.{cases_lt, ltb-true, ltb-false}
use Rattle.std.proofs.lemmas.List.Sums.{sum_by-cons, count_by_more_yes}
use Rattle.msc_chart.proofs.ListLemmas.{by_test}

-- how many of the numbers below n pass a test
abbrev pub tally : (ℕ → Bool) → ℕ → ℕ
tally test zero = 0
tally test (suc n) = cond (test n) 1 0 + tally test n

-- all do where each does
pub tally_all : (test : ℕ → Bool) → ((x : ℕ) → test x ≡ true) → (n : ℕ) → tally test n ≡ n
tally_all test all zero = refl
tally_all test all (suc n) =
    let here = ap (λ (b : Bool). cond {A = ℕ} b 1 0) (all n) in
    omega (arith, here, tally_all test all n)

-- numbers with the gap at v closed
abbrev closed : ℕ → ℕ → ℕ
closed v w = cond (nat_lt v w) (w - 1) w

-- numbers other than v stay below one less
closed_below : (v w m : ℕ) → v < m → w < m → (v ≡ w → ⊥) → closed v w < m - 1
closed_below v w m gap below other =
    by_test (nat_lt v w)
    (λ above. let lt = ltb-true v w above in let is = ap (λ (b : Bool). cond b (w - 1) w) above in omega (arith, is, lt))
    (λ under.
    let ge = ltb-false v w under in
    let is = ap (λ (b : Bool). cond b (w - 1) w) under in
    elim (cases_lt w v) [
      | inl lt ↦ omega (arith, is, lt)
      | inr le ↦ absurd (other (omega arith))
    ])

-- and stay different
closed_same : (v w u : ℕ) → (v ≡ w → ⊥) → (v ≡ u → ⊥) → closed v w ≡ closed v u → w ≡ u
closed_same v w u p q same =
    by_test (nat_lt v w)
    (λ a. by_test (nat_lt v u)
    (λ b. let x = ap (λ (t : Bool). cond t (w - 1) w) a in let y = ap (λ (t : Bool). cond t (u - 1) u) b in let l = ltb-true v w a in let k = ltb-true v u b in omega (arith, x, y, same, l, k))
    (λ b. let x = ap (λ (t : Bool). cond t (w - 1) w) a in let y = ap (λ (t : Bool). cond t (u - 1) u) b in let l = ltb-true v w a in let k = ltb-false v u b in absurd (q (omega (arith, x, y, same, l, k)))))
    (λ a. by_test (nat_lt v u)
    (λ b. let x = ap (λ (t : Bool). cond t (w - 1) w) a in let y = ap (λ (t : Bool). cond t (u - 1) u) b in let l = ltb-false v w a in let k = ltb-true v u b in absurd (p (omega (arith, x, y, same, l, k))))
    (λ b. let x = ap (λ (t : Bool). cond t (w - 1) w) a in let y = ap (λ (t : Bool). cond t (u - 1) u) b in omega (arith, x, y, same)))

-- where different numbers that pass have different values below m, at most m pass
pub tally_few : (n m : ℕ) (test : ℕ → Bool) (value : ℕ → ℕ)
    → ((x y : ℕ) → x < y → y < n → test x ≡ true → test y ≡ true → value x ≡ value y → ⊥)
    → ((x : ℕ) → x < n → test x ≡ true → value x < m) → tally test n ≤ m
tally_few zero m test value apart below = omega arith
tally_few (suc n) m test value apart below =
    by_test (test n)
    (λ here.
    let last = below n (omega arith) here in
    let rest = tally_few n (m - 1) test (λ x. closed (value n) (value x))
    (λ x y lt within p q same.
    apart x y lt (omega arith) p q
    (closed_same (value n) (value x) (value y) (λ e. apart x n (omega arith) (omega arith) p here (sym e)) (λ e. apart y n (omega arith) (omega arith) q here (sym e)) same))
    (λ x within p. closed_below (value n) (value x) m last (below x (omega arith) p) (λ e. apart x n within (omega arith) p here (sym e))) in
    let one = ap (λ (b : Bool). cond {A = ℕ} b 1 0) here in
    omega (arith, rest, one, last))
    (λ other.
    let rest = tally_few n m test value (λ x y lt within p q same. apart x y lt (omega arith) p q same) (λ x within p. below x (omega arith) p) in
    let none = ap (λ (b : Bool). cond {A = ℕ} b 1 0) other in
    omega (arith, rest, none))

-- more of a list has no fewer that pass
pub count_rises : {X : Type 0} (p : X → Bool) (xs : List X) (i j : ℕ) → i ≤ j → count_by p (take i xs) ≤ count_by p (take j xs)
count_rises p [] zero j le = omega arith
count_rises p [] (suc i) zero le = absurd (omega arith)
count_rises p [] (suc i) (suc j) le = omega arith
count_rises p (x ∷ xs) zero j le = omega arith
count_rises p (x ∷ xs) (suc i) zero le = absurd (omega arith)
count_rises p (x ∷ xs) (suc i) (suc j) le =
    let rest = count_rises p xs i j (omega arith) in
    omega (arith, rest, sum_by-cons (λ y. cond {A = ℕ} (p y) 1 0) x (take i xs), sum_by-cons (λ y. cond {A = ℕ} (p y) 1 0) x (take j xs))

-- of two that pass the later has more before it
pub count_later : {X : Type 0} (p : X → Bool) (xs : List X) (d : X) (i j : ℕ) → i < j → i < length xs → p (get_or xs i d) ≡ true
    → count_by p (take i xs) < count_by p (take j xs)
count_later p xs d i j lt within here =
    let more = count_by_more_yes p xs i d within here in
    let rises = count_rises p xs (i + 1) j (omega arith) in
    omega (arith, more, rises)

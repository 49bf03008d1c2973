-- Lists that are made of ranges by tests and functions that agree, and ranges of places.
use Rattle.std.proofs.Common.{◌≡◌, ℕ, zero, suc, ◌+◌, ◌<◌, ◌≤◌, Bool, false, cond, List, [], ◌∷◌, ◌++◌, length, filter, Option, Some, refl, sym, ap, ◌∙◌, append-nil, arith}
use Rattle.std.specs.List.{All, flat_map, range_with_len}
use Rattle.msc_picture.proofs.Ranges.{flat_next}
use Rattle.msc_picture.specs.Rows.{grown, reach_from}

-- two tests that agree on the numbers of a range keep the same
pub same_kept : (p q : ℕ → Bool) (n a : ℕ) → ((x : ℕ) → a ≤ x → x < a + n → p x ≡ q x)
    → filter p (range_with_len a n) ≡ filter q (range_with_len a n)
same_kept p q zero a agree = refl
same_kept p q (suc n) a agree =
    let rest = range_with_len (a + 1) n in
    ap (λ (b : Bool). cond b (a ∷ filter p rest) (filter p rest)) (agree a (omega arith) (omega arith))
    ∙ ap (λ (l : List ℕ). cond (q a) (a ∷ l) l)
    (same_kept p q n (a + 1) (λ x low high. agree x (omega (arith, low)) (omega (arith, high))))

-- so do two functions
pub same_made : {X : Type 0} (f g : ℕ → List X) (n a : ℕ)
    → ((x : ℕ) → a ≤ x → x < a + n → f x ≡ g x)
    → flat_map f (range_with_len a n) ≡ flat_map g (range_with_len a n)
same_made f g zero a agree = refl
same_made {X} f g (suc n) a agree =
    let rest = range_with_len (a + 1) n in
    ap (λ (l : List X). l ++ flat_map f rest) (agree a (omega arith) (omega arith))
    ∙ ap (λ (l : List X). g a ++ l)
    (same_made f g n (a + 1) (λ x low high. agree x (omega (arith, low)) (omega (arith, high))))

-- numbers of which nothing is made add nothing
pub made_quiet : {X : Type 0} (f : ℕ → List X) (k n m : ℕ) → n + k ≡ m
    → ((x : ℕ) → n ≤ x → x < m → f x ≡ [])
    → flat_map f (range_with_len 0 n) ≡ flat_map f (range_with_len 0 m)
made_quiet f zero n m at quiet =
    let same : n ≡ m = omega arith in ap (λ (j : ℕ). flat_map f (range_with_len 0 j)) same
made_quiet {X} f (suc k) n m at quiet =
    let j = n + k in
    let on : j + 1 ≡ m = omega arith in
    made_quiet f k n j refl (λ x low high. quiet x low (omega (arith, high)))
    ∙ sym (append-nil (flat_map f (range_with_len 0 j)))
    ∙ ap (λ (l : List X). flat_map f (range_with_len 0 j) ++ l)
    (sym (quiet j (omega arith) (omega arith)))
    ∙ flat_next f j _ _ refl refl
    ∙ ap (λ (i : ℕ). flat_map f (range_with_len 0 i)) on

-- where no item passes, a range of places stays as it is
pub reach_quiet : {X : Type 0} (test : X → Bool) (reach : Option (ℕ × ℕ)) (k : ℕ) (xs : List X)
    → All (λ x. test x ≡ false) xs → reach_from test reach k xs ≡ reach
reach_quiet test reach k [] quiet = refl
reach_quiet {X} test reach k (x ∷ xs) quiet =
    ap (λ (b : Bool). reach_from test (cond b (Some (grown reach k)) reach) (k + 1) xs)
    (quiet 0 x (omega arith))
    ∙ reach_quiet test reach (k + 1) xs (λ i d below. quiet (suc i) d (omega (arith, below)))

-- a range of places after one more item
pub reach_push : {X : Type 0} (test : X → Bool) (reach : Option (ℕ × ℕ)) (k : ℕ) (xs : List X) (x : X)
    → reach_from test reach k (xs ++ x ∷ [])
    ≡ cond (test x) (Some (grown (reach_from test reach k xs) (k + length xs)))
    (reach_from test reach k xs)
reach_push test reach k [] x =
    let here : k ≡ k + 0 = omega arith in
    ap (λ (j : ℕ). cond (test x) (Some (grown reach j)) reach) here
reach_push test reach k (y ∷ ys) x =
    let next : Option (ℕ × ℕ) = cond (test y) (Some (grown reach k)) reach in
    let on : (k + 1) + length ys ≡ k + suc (length ys) = omega arith in
    reach_push test next (k + 1) ys x
    ∙ ap (λ (j : ℕ). cond (test x) (Some (grown (reach_from test next (k + 1) ys) j))
    (reach_from test next (k + 1) ys)) on

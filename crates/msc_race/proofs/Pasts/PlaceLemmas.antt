-- The place at which a number is first in a list.
use Rattle.std.proofs.Common.{◌≡◌, ◌≢◌, ℕ, zero, suc, ◌+◌, ◌<◌, ◌≤◌, true, false, cond, inl, inr, eqb, List, [], ◌∷◌, ◌++◌, length, get_or, take, refl, ap, ◌∙◌, subst, arith}
use Rattle.std.proofs.Math.Seq.{take-append-add}
use Rattle.std.proofs.lemmas.Bool.{eqb-true, eq-eqb, cases_lt}
use Rattle.std.proofs.lemmas.List.{length-append}
use Rattle.msc_chart.specs.Lists.{occurs, until}
use Rattle.msc_chart.proofs.ListLemmas.{clash, parts}

-- where the list goes on behind what stands before the first f, it goes on with f
pub until_stop : (xs : List ℕ) (f : ℕ) → length (until xs f) < length xs → get_or xs (length (until xs f)) 0 ≡ f
unfolding until
until_stop [] f less = absurd (omega (arith, less))
until_stop (x ∷ xs) f less =
    (elim (eqb x f) as (λ b. eqb x f ≡ b → length (cond b [] (x ∷ until xs f)) < length (x ∷ xs)
    → get_or (x ∷ xs) (length (cond b [] (x ∷ until xs f))) 0 ≡ f) [
      | true ↦ λ same h. eqb-true x f same
      | false ↦ λ other h. until_stop xs f (omega (arith, h))
    ]) refl less

-- what stands before the first f is another number
pub until_apart : (xs : List ℕ) (f k : ℕ) → k < length (until xs f) → get_or xs k 0 ≢ f
unfolding until
until_apart [] f k less = absurd (omega (arith, less))
until_apart (x ∷ xs) f zero less =
    (elim (eqb x f) as (λ b. eqb x f ≡ b → 0 < length (cond b [] (x ∷ until xs f)) → x ≢ f) [
      | true ↦ λ same h. absurd (omega (arith, h))
      | false ↦ λ other h is. clash (eq-eqb x f is) other
    ]) refl less
until_apart (x ∷ xs) f (suc k) less =
    (elim (eqb x f) as (λ b. eqb x f ≡ b → suc k < length (cond b [] (x ∷ until xs f)) → get_or xs k 0 ≢ f) [
      | true ↦ λ same h. absurd (omega (arith, h))
      | false ↦ λ other h. until_apart xs f k (omega (arith, h))
    ]) refl less

-- it is no longer than the list
pub until_short : (xs : List ℕ) (f : ℕ) → length (until xs f) ≤ length xs
unfolding until
until_short [] f = omega arith
until_short (x ∷ xs) f =
    elim (eqb x f) as (λ b. length (cond b [] (x ∷ until xs f)) ≤ length (x ∷ xs)) [
      | true ↦ omega arith
      | false ↦ let h = until_short xs f in omega (arith, h)
    ]

-- the place is the one at which f is found
pub found_at : (xs : List ℕ) (f k : ℕ) → k ≤ length (until xs f) → get_or xs k 0 ≡ f → k ≡ length (until xs f)
found_at xs f k most is =
    elim (cases_lt k (length (until xs f))) [
      | inl less ↦ absurd (until_apart xs f k less is)
      | inr more ↦ omega (arith, most, more)
    ]

-- it is further where f is not found
pub further : (xs : List ℕ) (f k : ℕ) → k < length xs → k ≤ length (until xs f) → get_or xs k 0 ≢ f → k + 1 ≤ length (until xs f)
further xs f k inside most other =
    elim (cases_lt k (length (until xs f))) [
      | inl less ↦ omega (arith, less)
      | inr more ↦
          let same : length (until xs f) ≡ k = omega (arith, most, more) in
          absurd (other (subst (λ (j : ℕ). get_or xs j 0 ≡ f) same (until_stop xs f (omega (arith, same, inside)))))
    ]

-- where f occurs, what stands before it is shorter than the list
pub until_less : (xs : List ℕ) (f : ℕ) → occurs xs f ≡ true → length (until xs f) < length xs
until_less xs f there =
    let p = parts xs f there in
    let whole : length xs ≡ length (until xs f) + length (f ∷ p.0) = ap (λ (l : List ℕ). length l) p.1 ∙ length-append (until xs f) (f ∷ p.0) in
    omega (arith, whole)

-- and the list is cut behind f
pub cut_behind : (xs : List ℕ) (f : ℕ) → occurs xs f ≡ true → take (length (until xs f) + 1) xs ≡ until xs f ++ f ∷ []
cut_behind xs f there =
    let p = parts xs f there in
    ap (λ (l : List ℕ). take (length (until xs f) + 1) l) p.1 ∙ take-append-add (until xs f) (f ∷ p.0) 1

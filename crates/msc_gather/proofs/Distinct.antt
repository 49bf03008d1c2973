-- Logs that share no event, joined.
use Rattle.std.proofs.Common.{◌≡◌, ℕ, ◌<◌, true, false, inl, inr, eqb, List, [], ◌∷◌, ◌++◌, length, get_or, zero, suc, refl, sym, subst, ◌∙◌, arith}
use Rattle.std.proofs.lemmas.Bool.{eqb-true, or_cases, false_from_ne_true}
use Rattle.std.specs.List.{concat}
use Rattle.msc_chart.specs.Lists.{occurs, Steps}
use Rattle.msc_chart.proofs.ListLemmas.{clash, occurs-append, occurs-left, occurs-push, occurs-head, occurs-tail, occurs-right, IsDistinct}
use Rattle.msc_gather.proofs.Once.{IsNew, occurs-cases}

-- a list that holds nothing twice, told from its front, holds nothing twice from its head
pub distinct_of_once : (past xs : List ℕ) → Steps IsNew past xs
    → IsDistinct xs × ((e : ℕ) → occurs xs e ≡ true → occurs past e ≡ false)
unfolding occurs
distinct_of_once past [] once = (tt, λ e h. clash h refl)
distinct_of_once past (x ∷ xs) once =
    let rest = distinct_of_once (past ++ x ∷ []) xs once.1 in (
      (false_from_ne_true _ (λ h. clash (occurs-push past x) (rest.1 x h)), rest.0),
      λ e h. elim (or_cases (eqb x e) (occurs xs e) h) [
        | inl same ↦ subst (λ (z : ℕ). occurs past z ≡ false) (eqb-true x e same) once.0
        | inr later ↦ false_from_ne_true _
            (λ old. clash (occurs-left past (x ∷ []) e old) (rest.1 e later))
      ],
    )

-- and the other way round
pub once_of_distinct : (past xs : List ℕ) → IsDistinct xs
    → ((e : ℕ) → occurs xs e ≡ true → occurs past e ≡ false) → Steps IsNew past xs
unfolding occurs
once_of_distinct past [] apart h = tt
once_of_distinct past (x ∷ xs) apart h = (
  h x (occurs-head x xs),
  once_of_distinct (past ++ x ∷ []) xs apart.1 (λ e there. false_from_ne_true _ (λ old.
      elim (or_cases (eqb x e) false
      (occurs-cases past (x ∷ []) e old (h e (occurs-tail x xs e there)))) [
        | inl same ↦ clash (subst (λ (z : ℕ). occurs xs z ≡ true) (sym (eqb-true x e same)) there)
            apart.0
        | inr never ↦ clash never refl
      ])),
)

-- two lists that share nothing, joined
pub IsDistinct-append : (xs ys : List ℕ) → IsDistinct xs → IsDistinct ys
    → ((e : ℕ) → occurs xs e ≡ true → occurs ys e ≡ true → ⊥) → IsDistinct (xs ++ ys)
IsDistinct-append [] ys h k other = k
IsDistinct-append (x ∷ xs) ys h k other = (
  false_from_ne_true _
      (λ there. elim (or_cases (occurs xs x) (occurs ys x) (sym (occurs-append xs ys x) ∙ there)) [
        | inl a ↦ clash a h.0
        | inr b ↦ other x (occurs-head x xs) b
      ]),
  IsDistinct-append xs ys h.1 k (λ e a b. other e (occurs-tail x xs e a) b),
)

-- joined logs
pub in_concat : (logs : List (List ℕ)) (i e : ℕ) → i < length logs
    → occurs (get_or logs i []) e ≡ true → occurs (concat logs) e ≡ true
in_concat [] i e below h = let f : ⊥ = omega arith in absurd f
in_concat (log ∷ logs) zero e below h = occurs-left log (concat logs) e h
in_concat (log ∷ logs) (suc i) e below h = occurs-right log (concat logs) e
    (in_concat logs i e (omega arith) h)

-- and what the joined logs have is in one of them
pub of_concat : (logs : List (List ℕ)) (e : ℕ) → occurs (concat logs) e ≡ true
    → (i : ℕ) × (i < length logs) × (occurs (get_or logs i []) e ≡ true)
unfolding occurs
of_concat [] e h = clash h refl
of_concat (log ∷ logs) e h =
    elim (or_cases (occurs log e) (occurs (concat logs) e)
    (sym (occurs-append log (concat logs) e) ∙ h)) [
      | inl here ↦ (zero, omega arith, here)
      | inr later ↦ let found = of_concat logs e
          later in (suc found.0, omega (arith, found.1), found.2)
    ]

-- logs that share nothing, joined
pub IsDistinct-concat : (logs : List (List ℕ)) → ((i : ℕ) → i < length logs → IsDistinct (get_or logs i []))
    → ((i j e : ℕ) → i < length logs → j < length logs → occurs (get_or logs i []) e ≡ true
    → occurs (get_or logs j []) e ≡ true → i ≡ j) → IsDistinct (concat logs)
IsDistinct-concat [] each other = tt
IsDistinct-concat (log ∷ logs) each other =
    IsDistinct-append log (concat logs) (each zero (omega arith))
    (IsDistinct-concat logs (λ i below. each (suc i) (omega arith)) (λ i j e bi bj hi hj.
    let same : suc i ≡ suc j = other (suc i) (suc j) e (omega arith) (omega arith) hi hj in omega
    arith))
    (λ e here later.
    let found = of_concat logs e later in
    let i : ℕ = found.0 in
    let below : i < length logs = found.1 in
    let same : zero ≡ suc i = other zero (suc i) e (omega arith) (omega arith) here found.2 in omega
    arith)

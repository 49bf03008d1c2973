-- The filters of a list of events.
use Rattle.std.proofs.Common.{◌≡◌, ℕ, Bool, true, false, cond, ◌||◌, inl, inr, eqb, List, [], ◌∷◌, ◌++◌, filter, refl, sym, ap, subst, ◌∙◌}
use Rattle.std.proofs.lemmas.Bool.{eqb-true, cases_eq}
use Rattle.std.proofs.lemmas.List.{append-nil}
use Rattle.std.proofs.lemmas.List.Elements.{filter-append}
use Rattle.msc_chart.specs.Lists.{occurs, until, Steps, IsFirst}
use Rattle.msc_chart.proofs.ListLemmas.{clash, by_test, filter-passes}
use Rattle.msc_gather.proofs.Once.{until_passes, until_deeper, ne_occurs, occurs-cases}

-- what passes occurs in the filter where it occurs in the list
pub occurs-filter : (p : ℕ → Bool) (xs : List ℕ) (e : ℕ) → p e ≡ true
    → occurs (filter p xs) e ≡ occurs xs e
unfolding occurs
occurs-filter p [] e h = refl
occurs-filter p (x ∷ xs) e h =
    (elim (p x) as (λ b. p x ≡ b → occurs (cond b (x ∷ filter p xs) (filter p xs)) e
    ≡ (eqb x e || occurs xs e)) [
      | true ↦ λ passes. ap (λ b. eqb x e || b) (occurs-filter p xs e h)
      | false ↦ λ fails. by_test (eqb x e)
          (λ same. clash (rw (eqb-true x e same) h) fails)
          (λ other. rw other (occurs-filter p xs e h))
    ]) refl

-- what stands in a filter before something that passes is what stands before it and passes
pub until-filter : (p : ℕ → Bool) (xs : List ℕ) (e : ℕ) → p e ≡ true
    → until (filter p xs) e ≡ filter p (until xs e)
unfolding until
until-filter p [] e h = refl
until-filter p (x ∷ xs) e h =
    (elim (eqb x e) as (λ b. eqb x e ≡ b → until (filter p (x ∷ xs)) e
    ≡ filter p (cond b [] (x ∷ until xs e))) [
      | true ↦ λ same.
          let here : p x ≡ true = subst (λ (z : ℕ). p z ≡ true) (sym (eqb-true x e same)) h in
          rw here (rw same refl)
      | false ↦ λ other.
          (elim (p x) as (λ b. until (cond b (x ∷ filter p xs) (filter p xs)) e
          ≡ cond b (x ∷ filter p (until xs e)) (filter p (until xs e))) [
            | true ↦ rw other (ap (λ l. x ∷ l) (until-filter p xs e h))
            | false ↦ until-filter p xs e h
          ])
    ]) refl

-- the filter of a list of steps is a list of steps, where what passes may step after what passed
pub Steps-filter : (May Other : List ℕ → ℕ → Type 0) (p : ℕ → Bool)
    → ((past : List ℕ) (x : ℕ) → p x ≡ true → May past x → Other (filter p past) x)
    → (past xs : List ℕ) → Steps May past xs → Steps Other (filter p past) (filter p xs)
Steps-filter May Other p f past [] h = tt
Steps-filter May Other p f past (x ∷ xs) h =
    let rest : Steps Other (filter p past ++ filter p (x ∷ [])) (filter p xs) =
    subst (λ (l : List ℕ). Steps Other l (filter p xs)) (filter-append p past (x ∷ []))
    (Steps-filter May Other p f (past ++ x ∷ []) xs h.1) in
    (elim (p x) as (λ b. p x ≡ b → Steps Other (filter p past ++ cond b (x ∷ []) []) (filter p xs)
    → Steps Other (filter p past) (cond b (x ∷ filter p xs) (filter p xs))) [
      | true ↦ λ passes k. (f past x passes h.0, k)
      | false ↦ λ fails k. rw append-nil at k
    ]) refl rest

-- what occurs in a filter occurs in the list
pub filter-within : (p : ℕ → Bool) (xs : List ℕ) (e : ℕ) → occurs (filter p xs) e ≡ true
    → occurs xs e ≡ true
filter-within p xs e h = sym (occurs-filter p xs e (filter-passes p xs e h)) ∙ h

-- what occurs, passes, and has nothing that passes before it is the first of a filter
pub first_from : (p : ℕ → Bool) (xs : List ℕ) (s : ℕ) → occurs xs s ≡ true → p s ≡ true
    → ((t : ℕ) → occurs (until xs s) t ≡ true → p t ≡ false) → IsFirst (filter p xs) s
unfolding occurs
first_from p [] s there passes none = clash there refl
first_from p (x ∷ xs) s there passes none =
    elim (cases_eq x s) [
      | inl same ↦
          let here : p x ≡ true = subst (λ (z : ℕ). p z ≡ true) (sym same) passes in
          rw here same
      | inr other ↦
          let fails : p x ≡ false = none x (until_passes x xs s other) in
          rw fails (first_from p xs s (occurs-cases (x ∷ []) xs s there (ne_occurs x s other))
          passes (λ t h. none t (until_deeper x xs s t other h)))
    ]

-- A list without repetition whose members are in another list is no longer.
use Rattle.std.proofs.Common.{◌≡◌, ℕ, suc, ◌+◌, ◌≤◌, ◌⊎◌, Bool, true, false, ◌||◌, inl, inr, eqb, List, [], ◌∷◌, ◌++◌, length, sym, ap, ◌∙◌, subst, arith}
use Rattle.std.proofs.lemmas.Bool.{eqb-true, or_cases, false_from_ne_true}
use Rattle.std.proofs.lemmas.List.{length-append}
use Rattle.msc_chart.specs.Lists.{occurs, until, Steps, IsOnce}
use Rattle.msc_chart.proofs.ListLemmas.{by_test, clash, parts, occurs-append, occurs-head, occurs-left, occurs-push, occurs-right, occurs-tail, IsDistinct}

-- a number is new after a list that has it not
abbrev pub IsNew : List ℕ → ℕ → Type 0
IsNew past x = occurs past x ≡ false

-- what occurs in a list is its head or occurs behind it
pub head_or_behind : (x : ℕ) (xs : List ℕ) (y : ℕ) → occurs (x ∷ xs) y ≡ true → (x ≡ y) ⊎ (occurs xs y ≡ true)
unfolding occurs
head_or_behind x xs y h = elim (or_cases (eqb x y) (occurs xs y) h) [
  | inl same ↦ inl (eqb-true x y same)
  | inr later ↦ inr later
]

-- a list that holds nothing twice, told from its front, holds nothing twice from its head
distinct_from : (past xs : List ℕ) → Steps IsNew past xs
    → IsDistinct xs × ((e : ℕ) → occurs xs e ≡ true → occurs past e ≡ false)
unfolding occurs
distinct_from past [] once = (tt, λ e h. cc)
distinct_from past (x ∷ xs) once =
    let rest = distinct_from (past ++ x ∷ []) xs once.1 in (
      (false_from_ne_true _ (λ h. clash (occurs-push past x) (rest.1 x h)), rest.0),
      λ e h. elim (head_or_behind x xs e h) [
        | inl same ↦ subst (λ (z : ℕ). occurs past z ≡ false) same once.0
        | inr later ↦ false_from_ne_true _ (λ old. clash (occurs-left past (x ∷ []) e old) (rest.1 e later))
      ],
    )

-- what occurs around x, and is another number, occurs without it
around : (front rest : List ℕ) (x y : ℕ) → occurs (front ++ x ∷ rest) y ≡ true → (x ≡ y → ⊥)
    → occurs (front ++ rest) y ≡ true
around front rest x y there other =
    by_test (occurs front y) (λ early. occurs-left front rest y early)
    (λ late.
    let behind : occurs (x ∷ rest) y ≡ true =
    ap (λ (b : Bool). b || occurs (x ∷ rest) y) (sym late) ∙ sym (occurs-append front (x ∷ rest) y) ∙ there in
    elim (head_or_behind x rest y behind) [
      | inl same ↦ absurd (other same)
      | inr later ↦ occurs-right front rest y later
    ])

-- each member takes one of the other list out of it
pigeons : (xs ys : List ℕ) → IsDistinct xs → ((x : ℕ) → occurs xs x ≡ true → occurs ys x ≡ true)
    → length xs ≤ length ys
pigeons [] ys once h = omega arith
pigeons (x ∷ xs) ys once h =
    let p = parts ys x (h x (occurs-head x xs)) in
    let front : List ℕ = until ys x in
    let rest : List ℕ = p.0 in
    let shorter : length xs ≤ length (front ++ rest) = pigeons xs (front ++ rest) once.1 (λ y y_in.
    let there = subst (λ (l : List ℕ). occurs l y ≡ true) p.1 (h y (occurs-tail x xs y y_in)) in
    around front rest x y there (λ is. clash (subst (λ (k : ℕ). occurs xs k ≡ true) (sym is) y_in) once.0)) in
    let whole : length ys ≡ length front + suc (length rest) =
    ap (λ (l : List ℕ). length l) p.1 ∙ length-append front (x ∷ rest) in
    let less : length (front ++ rest) ≡ length front + length rest = length-append front rest in
    omega arith

-- and so with a list that holds nothing twice
pub no_longer : (xs ys : List ℕ) → IsOnce xs → ((x : ℕ) → occurs xs x ≡ true → occurs ys x ≡ true)
    → length xs ≤ length ys
no_longer xs ys once h = pigeons xs ys (distinct_from [] xs once).0 h

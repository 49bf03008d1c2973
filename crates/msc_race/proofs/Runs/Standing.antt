-- What stands before what in a list.
use Rattle.std.proofs.Common.{◌≡◌, ◌≢◌, ℕ, true, false, cond, ◌||◌, List, [], ◌∷◌, eqb, refl, ap, subst}
use Rattle.std.proofs.lemmas.Bool.{eqb-true, ne_eqb}
use Rattle.msc_chart.specs.Lists.{occurs, until}
use Rattle.msc_race.proofs.Shared.{clash, until-within}

-- a member of a list stands before another number that does not stand before it
pub until_swapped : (xs : List ℕ) (e f : ℕ) → f ≢ e → occurs xs f ≡ true
    → occurs (until xs f) e ≡ false → occurs (until xs e) f ≡ true
unfolding occurs until
until_swapped [] e f other there out = cc
until_swapped (x ∷ xs) e f other there out =
    (elim (eqb x f) as (λ b. eqb x f ≡ b → (b || occurs xs f) ≡ true → occurs (cond b [] (x ∷ until xs f)) e ≡ false
    → occurs (cond (eqb x e) [] (x ∷ until xs e)) f ≡ true) [
      | true ↦ λ same k j.
          let x_is : x ≡ f = eqb-true x f same in
          let apart : eqb x e ≡ false = ne_eqb x e (λ e_is. other (subst (λ (z : ℕ). z ≡ e) x_is e_is)) in
          rw (apart, same) refl
      | false ↦ λ differs k j.
          (elim (eqb x e) as (λ b. (b || occurs (until xs f) e) ≡ false → occurs (cond b [] (x ∷ until xs e)) f ≡ true) [
            | true ↦ λ i. clash refl i
            | false ↦ λ i. rw differs (until_swapped xs e f other k i)
          ]) j
    ]) refl there out

-- what stands before a number that stands before z is the same in the list up to z
pub until_until : (xs : List ℕ) (y z : ℕ) → occurs (until xs z) y ≡ true
    → until xs y ≡ until (until xs z) y
unfolding occurs until
until_until [] y z h = refl
until_until (x ∷ xs) y z h =
    (elim (eqb x z) as (λ b. occurs (cond b [] (x ∷ until xs z)) y ≡ true
    → cond (eqb x y) [] (x ∷ until xs y) ≡ until (cond b [] (x ∷ until xs z)) y) [
      | true ↦ λ k. cc
      | false ↦ λ k.
          (elim (eqb x y) as (λ b. (b || occurs (until xs z) y) ≡ true
          → cond b [] (x ∷ until xs y) ≡ cond b [] (x ∷ until (until xs z) y)) [
            | true ↦ λ j. refl
            | false ↦ λ j. ap (λ l. x ∷ l) (until_until xs y z j)
          ]) k
    ]) h

-- so standing before is transitive
pub stands_trans : (xs : List ℕ) (x y z : ℕ) → occurs (until xs y) x ≡ true
    → occurs (until xs z) y ≡ true → occurs (until xs z) x ≡ true
stands_trans xs x y z h k =
    until-within (until xs z) y x (subst (λ (l : List ℕ). occurs l x ≡ true) (until_until xs y z k) h)

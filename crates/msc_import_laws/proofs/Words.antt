-- Lists of numbers: what occurs in them.
use Rattle.std.proofs.Common.{◌≡◌, ◌⊎◌, ℕ, refl, sym, true, false, inl, inr, eqb, List, [], ◌∷◌, ◌++◌, ◌∙◌}
use Rattle.std.proofs.lemmas.Bool.{eqb-true, eq-eqb, or_cases, or_left}
use Rattle.msc_chart.specs.Lists.{occurs}
use Rattle.msc_chart.proofs.ListLemmas.{occurs-append}

-- the one number of a list
pub occurs_one : (x e : ℕ) → occurs (x ∷ []) e ≡ true → x ≡ e
unfolding occurs
occurs_one x e h = elim (or_cases (eqb x e) false h) [ inl a ↦ eqb-true x e a | inr b ↦ cc ]

-- it occurs
pub occurs_itself : (x : ℕ) → occurs (x ∷ []) x ≡ true
unfolding occurs
occurs_itself x = or_left (eqb x x) false (eq-eqb x x refl)

-- what occurs in a list with a head is the head or occurs behind it
pub occurs_cases : (x : ℕ) (xs : List ℕ) (e : ℕ) → occurs (x ∷ xs) e ≡ true → (x ≡ e) ⊎ (occurs xs e ≡ true)
unfolding occurs
occurs_cases x xs e h = elim (or_cases (eqb x e) (occurs xs e) h) [ inl a ↦ inl (eqb-true x e a) | inr b ↦ inr b ]

-- what occurs in two joined lists occurs in one of them
pub occurs_joined : (xs ys : List ℕ) (e : ℕ) → occurs (xs ++ ys) e ≡ true → (occurs xs e ≡ true) ⊎ (occurs ys e ≡ true)
occurs_joined xs ys e h = or_cases (occurs xs e) (occurs ys e) (sym (occurs-append xs ys e) ∙ h)

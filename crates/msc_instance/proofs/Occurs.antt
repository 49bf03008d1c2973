-- What occurs in a list.
use Rattle.std.proofs.Common.{◌≡◌, ◌<◌, ℕ, Bool, true, false, inl, inr, eqb, List, [], ◌∷◌, ◌++◌, filter, length, get_or, set, refl, sym, ap, subst, ◌∙◌, arith, get_or-set_other}
use Rattle.std.proofs.lemmas.Bool.{eqb-true, eq-eqb, or_cases, or_left, or_right, or_parts, cases_eq}
use Rattle.std.proofs.lemmas.Grind.{get_or-set_at}
use Rattle.std.proofs.lemmas.List.{append-nil}
use Rattle.msc_chart.specs.declared.TheConstants.{EVENT_LIMIT}
use Rattle.msc_chart.specs.Lists.{occurs, until}
use Rattle.msc_chart.proofs.ListLemmas.{clash, by_test, occurs-push, occurs_other}

-- nothing occurs in the empty list
pub occurs-nil : (e : ℕ) → occurs [] e ≡ false
unfolding occurs
occurs-nil e = refl

-- the marks of a list with one number more
pub marks_more : (marks : List Bool) (xs : List ℕ) (x e : ℕ) {ys : List ℕ} → length marks ≡ EVENT_LIMIT → e < EVENT_LIMIT
    → ((k : ℕ) → k < EVENT_LIMIT → get_or marks k false ≡ occurs xs k) → xs ++ x ∷ [] ≡ ys
    → get_or (set marks x true) e false ≡ occurs ys e
marks_more marks xs x e long below marked is =
    subst (λ l. get_or (set marks x true) e false ≡ occurs l e) is
    (elim (cases_eq e x) [
      | inl same ↦ get_or-set_at marks x e true false same (omega arith)
          ∙ sym (ap (λ z. occurs (xs ++ x ∷ []) z) same ∙ occurs-push xs x)
      | inr other ↦ get_or-set_other marks x e true false other ∙ marked e below
          ∙ sym (occurs_other xs x e other)
    ])

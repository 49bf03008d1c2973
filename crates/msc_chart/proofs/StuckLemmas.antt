-- A sorting that is stuck has an event that precedes itself, and a linear order has none.
use Rattle.std.proofs.Common.{◌≡◌, ℕ, suc, ◌+◌, ◌<◌, Bool, true, false, not, ◌||◌, ◌&&◌, List, [], ◌∷◌, length, inl, inr, refl, sym, subst, arith, eqb}
use Rattle.std.specs.Prelude.{count_by}
use Rattle.std.proofs.lemmas.Bool.{cases_lt, eqb-true, eq-eqb, not-true, not_from_false, and_parts, and_from, or_cases, or_left, or_right}
use Rattle.msc_chart.specs.declared.event.ChartEvent.{ChartEvent}
use Rattle.msc_chart.specs.Charts.{partner, is_output, before, Visual, Follows, IsAcyclic, IsLinearOrder}
use Rattle.msc_chart.specs.Charts.Visual.{seen, passed, linked}
use Rattle.msc_chart.specs.Sortings.{is_put, IsStuckAt, IsStuckBelow, IsSortingOf}
use Rattle.msc_chart.proofs.ListLemmas.{clash, step_at}
use Rattle.msc_chart.proofs.Numbers.{count_below, descend}
use Rattle.msc_chart.proofs.Drawn.{before_parts, output_parts}

-- one event more that can't be put
pub stuck-next : (events : List ChartEvent) (old new : List Bool) (k : ℕ) → new ≡ old → IsStuckBelow events old k → IsStuckAt events new k → IsStuckBelow events new (k + 1)
stuck-next events old new k same below here e lt =
    elim (cases_lt e k) [
      | inl less ↦ subst (λ (l : List Bool). IsStuckAt events l e) (sym same) (below e less)
      | inr ge ↦ let one : e ≡ k = omega arith in subst (IsStuckAt events new) (sym one) here
    ]

-- where some are left, one is
some_out : (marks : List Bool) → 0 < count_by not marks → (e : ℕ) × (e < length marks) × (is_put marks e ≡ false)
some_out [] some = absurd (omega arith)
some_out (false ∷ bs) some = (0, omega arith, refl)
some_out (true ∷ bs) some = let r = some_out bs some in (suc r.0, omega (arith, r.1), r.2)

-- x comes directly before y, as a test
directly : List ChartEvent → ℕ → ℕ → Bool
directly events x y = before events x y || (is_output events x && eqb (partner events x) y)

-- A stuck sorting has a cycle: from an event that is left go back to one that is left, and before which
-- none that is left comes directly. It could be put.
pub stuck_cyclic : (events : List ChartEvent) (order : List ℕ) (marks : List Bool) (first : List ℕ) (left : ℕ)
    → IsSortingOf events order marks first left → IsStuckBelow events marks (length events) → 0 < left → IsAcyclic events → ⊥
unfolding directly
stuck_cyclic events order marks first left kept stuck some acyclic =
    let out = some_out marks (let n = kept.left_count in omega arith) in
    let n = kept.marks_len in
    let g_in : out.0 < length events = omega (arith, out.1) in
    let last = descend (length events) (directly events) (Visual events)
    (λ x y h. elim (or_cases _ _ h) [
      | inl b ↦ seen b
      | inr p ↦ let q = and_parts _ _ p in passed q.0 (eqb-true _ _ q.1)
    ])
    (λ x y z h k. linked h k) acyclic
    (count_below (λ k. not (is_put marks k)) (length events)) (λ k. not (is_put marks k)) (omega arith) out.0 g_in (not_from_false _ out.2) in
    elim (stuck last.0 last.1) [
      | inl there ↦ clash there (not-true _ last.2)
      | inr barred ↦ elim barred.1 [
        | inl b ↦ clash (or_left _ _ b) (last.4 barred.0 (before_parts events barred.0 last.0 b).0 (not_from_false _ barred.2))
        | inr p ↦ clash (or_right (before events barred.0 last.0) _ (and_from _ _ p.0 (eq-eqb _ _ p.1))) (last.4 barred.0 (output_parts events barred.0 p.0).0 (not_from_false _ barred.2))
      ]
    ]

-- a linear order has no event that precedes itself
pub linear_acyclic : (events : List ChartEvent) (order : List ℕ) → IsLinearOrder events order → IsAcyclic events
linear_acyclic events order linear e within cycle =
    let f = (step_at (Follows events) order e linear.steps (linear.whole e within)).1 in
    clash (f.precedes e cycle) f.new

-- The ends of a path's arrows go down each line, and no two stand at one height.
use Rattle.std.proofs.Common.{◌≡◌, ◌⊎◌, ℕ, zero, suc, ◌+◌, ◌*◌, ◌<◌, ◌≤◌, Bool, true, false, sym, arith, inl, inr, eqb, List, [], ◌∷◌, slice_get, Some, ap, subst, ◌∙◌}
use Rattle.std.proofs.lemmas.Bool.{cases_lt}
use Rattle.msc_chart.specs.Lists.{StandsAt}
use Rattle.msc_chart.proofs.Places.{map-place}
use Rattle.msc_scenarios.specs.declared.steps.Step.{Step}
use Rattle.msc_scenarios.specs.declared.steps.Step.TheVariants as steps
use Rattle.msc_import.specs.declared.plan.Own.{Own}
use Rattle.msc_import.specs.declared.plan.Own.TheVariants as owns
use Rattle.msc_import.specs.Plans.{is_exchange}
use Rattle.msc_import_laws.proofs.Parts.Side.{Out, In, Alone, Lost, OutBack, InBack}
use Rattle.msc_import_laws.proofs.EndLists.{End, at_home, end_at, end_of, ends_at, ends_from, ends_on_lines, home, line_end, same_home, step_end}
use Rattle.msc_import_laws.proofs.Parts.{Side, fall, sides_by, sides_on, single_by}
use Rattle.msc_import_laws.proofs.Stands.{Ordered, ordered_append}

-- an end is at most three below the first of its arrow
pub fall_small : (s : Side) → fall s ≤ 3
fall_small Out = omega arith
fall_small In = omega arith
fall_small Alone = omega arith
fall_small Lost = omega arith
fall_small OutBack = omega arith
fall_small InBack = omega arith

-- x stands before y: on an earlier line, or on the same and higher
unfoldable pub Earlier : End → End → Type 0
Earlier x y = (x.line < y.line) ⊎ ((x.line ≡ y.line) × (x.height < y.height))

-- an end alone, and two ends
one_alone : (u : Side) → Ordered (λ s t. fall s < fall t) (u ∷ [])
one_alone u = λ i j s t lt h k. by i j s t lt h k
  where
    by : (i j : ℕ) (s t : Side) → i < j → StandsAt (u ∷ []) i s → StandsAt (u ∷ []) j t → fall s < fall t
    by i zero s t lt h k = absurd (omega (arith, lt))
    by i (suc j) s t lt h k = cc

two_ends : (u v : Side) → fall u < fall v → Ordered (λ s t. fall s < fall t) (u ∷ v ∷ [])
two_ends u v falls = λ i j s t lt h k. by i j s t lt h k
  where
    by : (i j : ℕ) (s t : Side) → i < j → StandsAt (u ∷ v ∷ []) i s → StandsAt (u ∷ v ∷ []) j t → fall s < fall t
    by i zero s t lt h k = absurd (omega (arith, lt))
    by zero (suc zero) s t lt h k = let a : u ≡ s = cc in let b : v ≡ t = cc in subst (λ x. fall s < fall x) b (subst (λ x. fall x < fall v) a falls)
    by (suc i) (suc zero) s t lt h k = absurd (omega (arith, lt))
    by i (suc (suc j)) s t lt h k = cc

-- the ends of an arrow on a line, the upper one first
single_fall : (own : Own) (lost from to : Bool) → Ordered (λ s t. fall s < fall t) (single_by own lost from to)
single_fall own true true to = one_alone Lost
single_fall own true false to = λ i j s t lt h k. cc
single_fall owns.Action false true true = one_alone Alone
single_fall owns.Message false true true = two_ends Out In (omega arith)
single_fall own false true false = one_alone Out
single_fall own false false true = one_alone In
single_fall own false false false = λ i j s t lt h k. cc

sides_fall : (own : Own) (pair lost from to : Bool) → Ordered (λ s t. fall s < fall t) (sides_by own pair lost from to)
sides_fall own true lost true to = two_ends Out InBack (omega arith)
sides_fall own true lost false true = two_ends OutBack In (omega arith)
sides_fall own true lost false false = λ i j s t lt h k. cc
sides_fall own false lost from to = single_fall own lost from to

-- the ends of a step on a line
step_falls : (own : Own) (line k : ℕ) (s : Step) → Ordered Earlier (ends_at own line k s)
unfolding Earlier
step_falls own line k (steps.Meets m) = λ i j x y lt h l.
    let a = map-place (end_at line k m) (sides_on own line m) i x h in
    let b = map-place (end_at line k m) (sides_on own line m) j y l in
    let falls : fall a.0 < fall b.0 = sides_fall own (is_exchange m) m.lost (eqb m.from line) (eqb m.to line) i j a.0 b.0 lt a.1 b.1 in
    let hx : 4 * k + fall a.0 ≡ x.height = ap (λ (e : End). e.height) a.2 in
    let hy : 4 * k + fall b.0 ≡ y.height = ap (λ (e : End). e.height) b.2 in
    inr (sym (ap (λ (e : End). e.line) a.2) ∙ ap (λ (e : End). e.line) b.2, omega (arith, falls, hx, hy))
step_falls own line k (steps.Opens text) = λ i j x y lt h l. cc
step_falls own line k steps.Next = λ i j x y lt h l. cc
step_falls own line k steps.Closes = λ i j x y lt h l. cc

-- those of all steps
line_falls : (own : Own) (line k : ℕ) (ss : List Step) → Ordered Earlier (ends_from own line k ss)
unfolding Earlier
line_falls own line k [] = λ i j x y lt h l. cc
line_falls own line k (s ∷ ss) =
    ordered_append Earlier (ends_at own line k s) (ends_from own line (k + 1) ss) (step_falls own line k s) (line_falls own line (k + 1) ss)
    (λ x y h l.
    let a = step_end own line k s x h in
    let b = line_end own line (k + 1) ss y l in
    inr (a.0 ∙ sym b.0, omega (arith, a.1, b.1.2, fall_small x.side)))

-- and those of all lines
pub ends_ordered : (own : Own) (ss : List Step) (line n : ℕ) → Ordered Earlier (ends_on_lines own ss line n)
unfolding Earlier
ends_ordered own ss line zero = λ i j x y lt h l. cc
ends_ordered own ss line (suc n) =
    ordered_append Earlier (ends_from own line 0 ss) (ends_on_lines own ss (line + 1) n) (line_falls own line 0 ss) (ends_ordered own ss (line + 1) n)
    (λ x y h l.
    let a = line_end own line 0 ss x h in
    let b = end_of own ss (line + 1) n y l in
    inl (omega (arith, a.0, b.0)))

-- ends of one height are of one step, and fall alike
pub same_step : (s t : Side) (i j : ℕ) → 4 * i + fall s ≡ 4 * j + fall t → (i ≡ j) × (fall s ≡ fall t)
same_step s t i j e = let a = fall_small s in let b = fall_small t in let one : i ≡ j = omega (arith, e, a, b) in (one, omega (arith, one, e))

-- no two ends stand at one height
pub ends_apart : (own : Own) (ss : List Step) (line n e f : ℕ) (x y : End) → StandsAt (ends_on_lines own ss line n) e x → StandsAt (ends_on_lines own ss line n) f y → x.height ≡ y.height → e ≡ f
unfolding Earlier
ends_apart own ss line n e f x y h k same =
    let a = (end_of own ss line n x (e, h)).2 in
    let b = (end_of own ss line n y (f, k)).2 in
    let both = same_step x.side y.side a.step b.step (sym a.high ∙ same ∙ b.high) in
    let one : Some (steps.Meets x.message) ≡ Some (steps.Meets y.message) = sym a.met ∙ ap (slice_get ss) both.0 ∙ b.met in
    let message : x.message ≡ y.message = cc in
    let line_x = at_home own x.line x.message x.side a.side in
    let line_y = at_home own y.line y.message y.side b.side in
    let lines : x.line ≡ y.line = line_x ∙ same_home x.message x.side y.side both.1 ∙ ap (λ m. home m y.side) message ∙ sym line_y in
    let none : (p q : End) → p.line ≡ q.line → p.height ≡ q.height → Earlier p q → ⊥ = λ p q l g d. elim d [ inl lt ↦ omega (arith, l, lt) | inr lt ↦ omega (arith, g, lt.1) ] in
    elim (cases_lt e f) [
      | inl lt ↦ absurd (none x y lines same (ends_ordered own ss line n e f x y lt h k))
      | inr ge ↦ elim (cases_lt f e) [
        | inl lt ↦ absurd (none y x (sym lines) (sym same) (ends_ordered own ss line n f e y x lt k h))
        | inr le ↦ omega (arith, ge, le)
      ]
    ]

-- The ends of a path's arrows: which they are.
use Rattle.std.proofs.Common.{◌≡◌, ℕ, zero, suc, ◌+◌, ◌*◌, ◌<◌, ◌≤◌, Bool, true, false, sym, arith, inl, inr, eqb, List, [], ◌∷◌, ◌++◌, map, Some, refl, ap, subst, ◌∙◌}
use Rattle.std.proofs.lemmas.Bool.{eqb-true}
use Rattle.msc_chart.specs.Lists.{StandsAt, Occurs}
use Rattle.msc_chart.proofs.DraftEvents.{joined}
use Rattle.msc_chart.proofs.Places.{map-place, place-map}
use Rattle.msc_scenarios.specs.declared.steps.Message.{Message}
use Rattle.msc_scenarios.specs.declared.steps.Step.{Step}
use Rattle.msc_scenarios.specs.declared.steps.Step.TheVariants as steps
use Rattle.msc_import.specs.declared.plan.Own.{Own}
use Rattle.msc_import.specs.declared.plan.Own.TheVariants as owns
use Rattle.msc_import.specs.Plans.{is_exchange}
use Rattle.msc_import_laws.proofs.Parts.Side.{Out, In, Alone, Lost, OutBack, InBack}
use Rattle.msc_import_laws.proofs.Parts.{Side, fall, sides_by, sides_on, single_by}
use Rattle.msc_import_laws.proofs.Stands.{first_joined, second_joined}

-- an end of an arrow: its line, its height, and which end of which message it is
pub record End : Type 0 where
  pub line : ℕ
  pub height : ℕ
  pub message : Message
  pub side : Side

-- an end of step k on a line
abbrev pub end_at : ℕ → ℕ → Message → Side → End
end_at line k m s = record { line = line; height = 4 * k + fall s; message = m; side = s }

-- the ends that a step has on a line
abbrev pub ends_at : Own → ℕ → ℕ → Step → List End
ends_at own line k (steps.Meets m) = map (end_at line k m) (sides_on own line m)
ends_at own line k (steps.Opens text) = []
ends_at own line k steps.Next = []
ends_at own line k steps.Closes = []

-- the ends on a line of these steps, of which the first is step k
abbrev pub ends_from : Own → ℕ → ℕ → List Step → List End
ends_from own line k [] = []
ends_from own line k (s ∷ ss) = ends_at own line k s ++ ends_from own line (k + 1) ss

-- those on so many lines from this one on
abbrev pub ends_on_lines : Own → List Step → ℕ → ℕ → List End
ends_on_lines own ss line zero = []
ends_on_lines own ss line (suc n) = ends_from own line 0 ss ++ ends_on_lines own ss (line + 1) n

-- the line of an arrow's end
unfoldable pub home : Message → Side → ℕ
home m Out = m.from
home m In = m.to
home m Alone = m.from
home m Lost = m.from
home m OutBack = m.to
home m InBack = m.from

-- lines of ends that fall alike are the same
pub same_home : (m : Message) (s t : Side) → fall s ≡ fall t → home m s ≡ home m t
unfolding home
same_home m Out Out h = refl
same_home m Out In h = cc
same_home m Out Alone h = refl
same_home m Out Lost h = refl
same_home m Out OutBack h = cc
same_home m Out InBack h = cc
same_home m In Out h = cc
same_home m In In h = refl
same_home m In Alone h = cc
same_home m In Lost h = cc
same_home m In OutBack h = cc
same_home m In InBack h = cc
same_home m Alone Out h = refl
same_home m Alone In h = cc
same_home m Alone Alone h = refl
same_home m Alone Lost h = refl
same_home m Alone OutBack h = cc
same_home m Alone InBack h = cc
same_home m Lost Out h = refl
same_home m Lost In h = cc
same_home m Lost Alone h = refl
same_home m Lost Lost h = refl
same_home m Lost OutBack h = cc
same_home m Lost InBack h = cc
same_home m OutBack Out h = cc
same_home m OutBack In h = cc
same_home m OutBack Alone h = cc
same_home m OutBack Lost h = cc
same_home m OutBack OutBack h = refl
same_home m OutBack InBack h = cc
same_home m InBack Out h = cc
same_home m InBack In h = cc
same_home m InBack Alone h = cc
same_home m InBack Lost h = cc
same_home m InBack OutBack h = cc
same_home m InBack InBack h = refl

-- which test an end has passed
IsTold : Bool → Bool → Side → Type 0
IsTold from to Out = from ≡ true
IsTold from to In = to ≡ true
IsTold from to Alone = from ≡ true
IsTold from to Lost = from ≡ true
IsTold from to OutBack = to ≡ true
IsTold from to InBack = from ≡ true

told_single : (own : Own) (lost from to : Bool) (s : Side) → Occurs (single_by own lost from to) s → IsTold from to s
unfolding IsTold
told_single own true true to s (zero, h) = let e : Lost ≡ s = cc in subst (IsTold true to) e refl
told_single own true true to s (suc j, h) = cc
told_single own true false to s (j, h) = cc
told_single owns.Action false true true s (zero, h) = let e : Alone ≡ s = cc in subst (IsTold true true) e refl
told_single owns.Action false true true s (suc j, h) = cc
told_single owns.Message false true true s (zero, h) = let e : Out ≡ s = cc in subst (IsTold true true) e refl
told_single owns.Message false true true s (suc zero, h) = let e : In ≡ s = cc in subst (IsTold true true) e refl
told_single owns.Message false true true s (suc (suc j), h) = cc
told_single own false true false s (zero, h) = let e : Out ≡ s = cc in subst (IsTold true false) e refl
told_single own false true false s (suc j, h) = cc
told_single own false false true s (zero, h) = let e : In ≡ s = cc in subst (IsTold false true) e refl
told_single own false false true s (suc j, h) = cc
told_single own false false false s (j, h) = cc

told : (own : Own) (pair lost from to : Bool) (s : Side) → Occurs (sides_by own pair lost from to) s → IsTold from to s
unfolding IsTold
told own true lost true to s (zero, h) = let e : Out ≡ s = cc in subst (IsTold true to) e refl
told own true lost true to s (suc zero, h) = let e : InBack ≡ s = cc in subst (IsTold true to) e refl
told own true lost true to s (suc (suc j), h) = cc
told own true lost false true s (zero, h) = let e : OutBack ≡ s = cc in subst (IsTold false true) e refl
told own true lost false true s (suc zero, h) = let e : In ≡ s = cc in subst (IsTold false true) e refl
told own true lost false true s (suc (suc j), h) = cc
told own true lost false false s (j, h) = cc
told own false lost from to s o = told_single own lost from to s o

-- an end stands on its line
pub at_home : (own : Own) (line : ℕ) (m : Message) (s : Side) → Occurs (sides_on own line m) s → line ≡ home m s
unfolding home IsTold
at_home own line m s h = by s (told own (is_exchange m) m.lost (eqb m.from line) (eqb m.to line) s h)
  where
    by : (s : Side) → IsTold (eqb m.from line) (eqb m.to line) s → line ≡ home m s
    by Out t = sym (eqb-true m.from line t)
    by In t = sym (eqb-true m.to line t)
    by Alone t = sym (eqb-true m.from line t)
    by Lost t = sym (eqb-true m.from line t)
    by OutBack t = sym (eqb-true m.to line t)
    by InBack t = sym (eqb-true m.from line t)

-- an end of an arrow: of which step it is, and which end
pub record IsEndOf (own : Own) (ss : List Step) (x : End) : Type 0 where
  pub step : ℕ
  pub met : StandsAt ss step (steps.Meets x.message)
  pub high : x.height ≡ 4 * step + fall x.side
  pub side : Occurs (sides_on own x.line x.message) x.side

-- the ends that a step has on a line
pub step_end : (own : Own) (line k : ℕ) (s : Step) (x : End) → Occurs (ends_at own line k s) x
    → (x.line ≡ line) × (x.height ≡ 4 * k + fall x.side) × (s ≡ steps.Meets x.message) × Occurs (sides_on own line x.message) x.side
step_end own line k (steps.Meets m) x (j, h) =
    let a = map-place (end_at line k m) (sides_on own line m) j x h in
    let message : m ≡ x.message = ap (λ (e : End). e.message) a.2 in
    let side : a.0 ≡ x.side = ap (λ (e : End). e.side) a.2 in (
      sym (ap (λ (e : End). e.line) a.2),
      sym (ap (λ (e : End). e.height) a.2) ∙ ap (λ s. 4 * k + fall s) side,
      ap steps.Meets message,
      (j, subst (λ n. StandsAt (sides_on own line n) j x.side) message (subst (StandsAt (sides_on own line m) j) side a.1)),
    )
step_end own line k (steps.Opens text) x (j, h) = cc
step_end own line k steps.Next x (j, h) = cc
step_end own line k steps.Closes x (j, h) = cc

-- those of all steps, from step k on
pub line_end : (own : Own) (line k : ℕ) (ss : List Step) (x : End) → Occurs (ends_from own line k ss) x
    → (x.line ≡ line) × ((i : ℕ) × StandsAt ss i (steps.Meets x.message) × (x.height ≡ 4 * (k + i) + fall x.side)) × Occurs (sides_on own line x.message) x.side
line_end own line k [] x (j, h) = cc
line_end own line k (s ∷ ss) x h =
    elim (joined (ends_at own line k s) (ends_from own line (k + 1) ss) x h) [
      | inl here ↦ let r = step_end own line k s x here in (r.0, (0, ap Some r.2, omega (arith, r.1)), r.3)
      | inr there ↦ let r = line_end own line (k + 1) ss x there in (r.0, (suc r.1.0, r.1.1, omega (arith, r.1.2)), r.2)
    ]

-- each end that a step has is there
line_has : (own : Own) (line k : ℕ) (ss : List Step) (i : ℕ) (m : Message) (s : Side) → StandsAt ss i (steps.Meets m) → Occurs (sides_on own line m) s
    → Occurs (ends_from own line k ss) (record { line = line; height = 4 * (k + i) + fall s; message = m; side = s })
line_has own line k [] i m s h o = cc
line_has own line k (t ∷ ss) zero m s h (j, o) =
    let same : t ≡ steps.Meets m = cc in
    let first = place-map (end_at line k m) (sides_on own line m) j s o in
    let number : k ≡ k + 0 = omega arith in
    first_joined (ends_at own line k t) (ends_from own line (k + 1) ss) _
    (subst (λ (n : ℕ). Occurs (ends_at own line k t) (record { line = line; height = 4 * n + fall s; message = m; side = s })) number
    (subst (λ u. Occurs (ends_at own line k u) (end_at line k m s)) (sym same) (j, first)))
line_has own line k (t ∷ ss) (suc i) m s h o =
    let rest = line_has own line (k + 1) ss i m s h o in
    let number : (k + 1) + i ≡ k + suc i = omega arith in
    second_joined (ends_at own line k t) (ends_from own line (k + 1) ss) _
    (subst (λ (n : ℕ). Occurs (ends_from own line (k + 1) ss) (record { line = line; height = 4 * n + fall s; message = m; side = s })) number rest)

-- the ends of all lines
pub end_of : (own : Own) (ss : List Step) (line n : ℕ) (x : End) → Occurs (ends_on_lines own ss line n) x
    → (line ≤ x.line) × (x.line < line + n) × IsEndOf own ss x
end_of own ss line zero x (j, h) = cc
end_of own ss line (suc n) x h =
    elim (joined (ends_from own line 0 ss) (ends_on_lines own ss (line + 1) n) x h) [
      | inl here ↦
          let r = line_end own line 0 ss x here in (
            omega (arith, r.0),
            omega (arith, r.0),
            record {
              step = r.1.0;
              met = r.1.1;
              high = omega (arith, r.1.2);
              side = subst (λ (l : ℕ). Occurs (sides_on own l x.message) x.side) (sym r.0) r.2;
            },
          )
      | inr there ↦ let r = end_of own ss (line + 1) n x there in (omega (arith, r.0), omega (arith, r.1), r.2)
    ]

pub has_end : (own : Own) (ss : List Step) (line n k i : ℕ) (m : Message) (s : Side) → k < n → StandsAt ss i (steps.Meets m) → Occurs (sides_on own (line + k) m) s
    → Occurs (ends_on_lines own ss line n) (record { line = line + k; height = 4 * i + fall s; message = m; side = s })
has_end own ss line zero k i m s lt h o = absurd (omega (arith, lt))
has_end own ss line (suc n) zero i m s lt h o =
    let number : line + 0 ≡ line = omega arith in
    let steps : 0 + i ≡ i = omega arith in
    let here = line_has own line 0 ss i m s h (subst (λ (l : ℕ). Occurs (sides_on own l m) s) number o) in
    first_joined (ends_from own line 0 ss) (ends_on_lines own ss (line + 1) n) _
    (subst (λ (l : ℕ). Occurs (ends_from own line 0 ss) (record { line = l; height = 4 * i + fall s; message = m; side = s })) (sym number)
    (subst (λ (j : ℕ). Occurs (ends_from own line 0 ss) (record { line = line; height = 4 * j + fall s; message = m; side = s })) steps here))
has_end own ss line (suc n) (suc k) i m s lt h o =
    let number : (line + 1) + k ≡ line + suc k = omega arith in
    let there = has_end own ss (line + 1) n k i m s (omega (arith, lt)) h (subst (λ (l : ℕ). Occurs (sides_on own l m) s) (sym number) o) in
    second_joined (ends_from own line 0 ss) (ends_on_lines own ss (line + 1) n) _
    (subst (λ (l : ℕ). Occurs (ends_on_lines own ss (line + 1) n) (record { line = l; height = 4 * i + fall s; message = m; side = s })) number there)

-- No run is stuck, and so the enforced order has no cycle.
use Rattle.std.proofs.Common.{ℕ, Bool, true, not, ◌⊎◌, inl, inr, List, [], ◌++◌, length, refl}
use Rattle.std.proofs.lemmas.Bool.{not-false, not-true}
use Rattle.std.proofs.Math.Nat.{le_refl}
use Rattle.msc_chart.specs.Lists.{occurs, until, Steps}
use Rattle.msc_chart.specs.Charts.{IsAcyclic, Visual}
use Rattle.msc_chart.specs.Charts.Visual.{seen, passed, linked}
use Rattle.msc_chart.specs.Orders.{WiredChart, IsWired, Enforced}
use Rattle.msc_chart.specs.Precedence.{none_ready}
use Rattle.msc_chart.specs.Runs.{Run, MayCome, IsWhole}
use Rattle.msc_race.proofs.Shared.{clash, count_below, find_below, step_at, Steps-map}
use Rattle.msc_race.proofs.Runs.Respects.{earlier}
use Rattle.msc_race.proofs.Runs.EnforcedPairs.{enforced_below}
use Rattle.msc_chart.proofs.Left.{is_left}
use Rattle.msc_race.proofs.Runs.Inside.{held_parts, MayComeInside, SomeLeft, run_inside}
use Rattle.msc_race.proofs.Runs.Needed.{needed_cases}
use Rattle.msc_race.proofs.Runs.Progress.{CanGoFirst, progress}
use Rattle.msc_race.proofs.Runs.Growing.{all_of}

-- the set of all events
abbrev pub everything : ℕ → Bool
everything x = true

module _ (chart : WiredChart) (is_wired : IsWired chart) (acyclic : IsAcyclic chart.events) where
  -- The set of all events can go first, in the visual order: none of its outputs is held.
  all_first : CanGoFirst chart everything (Visual chart.events)
  all_first = record {
    base = λ x y h. needed_cases chart none_ready x y h (λ drawn o. seen drawn) (λ drawn i l. seen drawn) (λ o same. passed o same);
    trans = λ x y z h k. linked h k;
    irreflexive = acyclic;
    drawn_inside = λ x s drawn o member. refl;
    sent_inside = λ r i member. refl;
    held_after = λ s t held on same r. clash refl (held_parts chart everything s held).2;
    held_together = λ s t held other. clash refl (held_parts chart everything s held).2;
  }

  -- every run is one inside that set
  run_of_all : (events : List ℕ) → Run chart events
      → Steps (MayComeInside chart everything) [] events
  run_of_all events run = Steps-map (MayCome chart) (MayComeInside chart everything)
      (λ past x may. record {
        may = may;
        member = refl;
        patient = λ held. clash refl (held_parts chart everything x held).2;
      }) [] events run

  -- A run is whole, or some event makes it longer.
  pub never_stuck : (events : List ℕ) → Run chart events
      → IsWhole chart events ⊎ ((e : ℕ) × MayCome chart events e)
  never_stuck events run =
      elim (find_below (λ x. not (occurs events x)) (length chart.events)) [
        | inl found ↦
            let left : SomeLeft chart everything events = (found.0, found.1, refl, not-true _ found.2) in
            let next =
            progress chart is_wired everything (Visual chart.events) all_first events (run_of_all events run) left in
            inr (next.0, next.1.may)
        | inr none ↦ inl (λ e below. not-false (occurs events e) (none e below))
      ]

  -- Every run goes on to a whole one.
  pub whole_after : (events : List ℕ) → Run chart events
      → (rest : List ℕ) × Run chart (events ++ rest) × IsWhole chart (events ++ rest)
  whole_after events run =
      let fuel : ℕ = count_below (is_left everything events) (length chart.events) in
      let steps = run_of_all events run in
      let more = all_of chart is_wired everything (Visual chart.events) all_first fuel events (le_refl fuel) steps in
      (more.0, run_inside chart everything _ more.1, λ e below. more.2 e below refl)

  -- The enforced order has no cycle: in a whole run an event would stand before itself.
  pub enforced_acyclic : (e : ℕ) → Enforced chart e e → ⊥
  enforced_acyclic e h =
      let whole = whole_after [] tt in
      let below = (enforced_below chart is_wired e e h).0 in
      let at_e = step_at (MayCome chart) whole.0 e whole.1 (whole.2 e below) in
      clash (earlier chart is_wired e e h (until whole.0 e) at_e.0 at_e.1) at_e.1.new

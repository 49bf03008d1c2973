-- What is not enforced is reversed by some run.
use Rattle.std.proofs.Common.{◌≡◌, ℕ, ◌<◌, Bool, true, false, ◌≢◌, ◌↔◌, inl, inr, List, [], ◌++◌, length, refl, sym}
use Rattle.std.proofs.lemmas.Bool.{false_from_ne_true}
use Rattle.std.proofs.Math.Nat.{le_refl}
use Rattle.msc_chart.specs.Lists.{occurs, until}
use Rattle.msc_chart.specs.Charts.{IsAcyclic}
use Rattle.msc_chart.specs.Orders.{WiredChart, IsWired, Enforced}
use Rattle.msc_chart.specs.Runs.{Run, IsWhole, Reverses}
use Rattle.msc_race.proofs.Shared.{count_below, step_at, until-within, until-append, occurs-left}
use Rattle.msc_race.proofs.Runs.Respects.{never_reversed}
use Rattle.msc_chart.proofs.Left.{is_left}
use Rattle.msc_race.proofs.Runs.Inside.{MayComeInside, run_inside}
use Rattle.msc_race.proofs.Runs.Growing.{all_of}
use Rattle.msc_race.proofs.Runs.WholeRuns.{whole_after}
use Rattle.msc_race.proofs.Runs.FreeEvents.{is_free_of, free_of_test, test_of_free}
use Rattle.msc_race.proofs.Runs.FreeFirst.{free_first}
use Rattle.msc_race.proofs.Runs.Tables.{enforced_order, enforced_told}

module _ (chart : WiredChart) (is_wired : IsWired chart) (acyclic : IsAcyclic chart.events) (e f : ℕ)
    (e_below : e < length chart.events) (f_below : f < length chart.events) (other : e ≢ f) where
  -- For two events that are not enforced in an order, a whole run has the second without the first
  -- before it: all that is free of the first, and then the rest.
  pub reversed : (Enforced chart e f → ⊥)
      → (events : List ℕ) × Run chart events × IsWhole chart events × Reverses events e f
  reversed apart =
      let table = enforced_order chart is_wired in
      let free : ℕ → Bool = is_free_of chart table.0 e in
      let fuel : ℕ = count_below (is_left free []) (length chart.events) in
      let can_go = free_first chart is_wired table.0 table.1 e e_below acyclic in
      let first = all_of chart is_wired free (Enforced chart) can_go fuel [] (le_refl fuel) tt in
      let front : List ℕ = first.0 in
      let f_free = test_of_free chart table.0 table.1 e e_below f f_below (λ same. other (sym same)) apart in
      let f_there : occurs front f ≡ true = first.2 f f_below f_free in
      let whole = whole_after chart is_wired acyclic front (run_inside chart free front first.1) in
      let e_out : occurs (until front f) e ≡ true → ⊥ = λ h.
      let at_e = step_at (MayComeInside chart free) front e first.1 (until-within front f e h) in
      (free_of_test chart table.0 table.1 e e at_e.1.member).1 refl in
      let e_late : occurs (until (front ++ whole.0) f) e ≡ false =
      rw (until-append front whole.0 f f_there) (false_from_ne_true _ e_out) in
      (front ++ whole.0, whole.1, whole.2, (occurs-left front whole.0 f f_there, e_late))

  -- So the two are enforced in an order exactly where no run reverses them.
  pub order_exactly : Enforced chart e f ↔ ((events : List ℕ) → Run chart events → Reverses events e f → ⊥)
  order_exactly = (
    λ h events run reverses. never_reversed chart is_wired events run e f h reverses,
    λ none. elim (enforced_told chart is_wired e f e_below f_below) [
      | inl h ↦ h
      | inr apart ↦ let shown = reversed apart in absurd (none shown.0 shown.1 shown.3)
    ],
  )

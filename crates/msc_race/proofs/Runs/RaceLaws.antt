-- Races are the drawn pairs that some run reverses.
use Rattle.std.proofs.Common.{◌≡◌, ℕ, true, inl, inr, ◌↔◌, List}
use Rattle.msc_chart.specs.Charts.{IsAcyclic, before}
use Rattle.msc_chart.specs.Orders.{WiredChart, IsWired, IsRace}
use Rattle.msc_chart.specs.Runs.{Run, Reverses, KeepsDrawnOrder}
use Rattle.msc_race.specs.Laws.{HasNoRace}
use Rattle.msc_race.proofs.Shared.{clash}
use Rattle.msc_race.proofs.Runs.EventLemmas.{before_differs, before_parts}
use Rattle.msc_race.proofs.Runs.Respects.{kept, never_reversed}
use Rattle.msc_race.proofs.Runs.Tables.{enforced_told}
use Rattle.msc_race.proofs.Runs.Reversal.{reversed}

module _ (chart : WiredChart) (is_wired : IsWired chart) where
  -- a drawn pair that a run reverses is a race
  pub race_from_run : (events : List ℕ) → Run chart events → (e f : ℕ)
      → before chart.events e f ≡ true → Reverses events e f → IsRace chart e f
  race_from_run events run e f drawn reverses =
      (drawn, λ h. never_reversed chart is_wired events run e f h reverses)

  module _ (acyclic : IsAcyclic chart.events) where
    -- some run reverses a race
    run_of_race : (e f : ℕ) → IsRace chart e f
        → (events : List ℕ) × Run chart events × Reverses events e f
    run_of_race e f race =
        let facts = before_parts chart.events e f race.0 in
        let shown = reversed chart is_wired acyclic e f facts.0 facts.1 (before_differs chart.events e f race.0) race.1 in
        (shown.0, shown.1, shown.3)

    -- a race is a drawn pair that some run reverses
    pub race_exactly : (e f : ℕ)
        → IsRace chart e f ↔ ((before chart.events e f ≡ true) × ((events : List ℕ) × Run chart events × Reverses events e f))
    race_exactly e f = (
      λ race. (race.0, run_of_race e f race),
      λ shown. race_from_run shown.1.0 shown.1.1 e f shown.0 shown.1.2,
    )

    -- there is none exactly where each run keeps the drawn order
    pub no_race_exactly : HasNoRace chart ↔ ((events : List ℕ) → Run chart events → KeepsDrawnOrder chart events)
    no_race_exactly = (
      λ none events run x y drawn there.
          let facts = before_parts chart.events x y drawn in
          elim (enforced_told chart is_wired x y facts.0 facts.1) [
            | inl h ↦ kept chart is_wired events run x y h there
            | inr apart ↦ absurd (none x y (drawn, apart))
          ],
      λ keeps e f race.
          let shown = run_of_race e f race in
          clash (keeps shown.0 shown.1 e f race.0 shown.2.0) shown.2.1,
    )

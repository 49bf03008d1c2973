-- The closest races of several rounds are told by two.
use Rattle.std.proofs.Common.{◌≡◌, ℕ, ◌+◌, ◌⊎◌, inl, inr}
use Rattle.msc_chart.specs.Orders.{WiredChart}
use Rattle.msc_chart.specs.RoundLaws.{IsNextRace, ClosestRacesByTwo}
use Rattle.msc_reason.specs.Closest.{IsClosest}
use Rattle.msc_reason.specs.Laws.{ClosestRacesOfRounds}

-- a race with nothing drawn between its events is a closest one
closest : {chart : WiredChart} {e f : ℕ} → IsNextRace chart e f → IsClosest chart e f
closest h = record { race = h.0; next = h.1 }

-- and the other way
next_race : {chart : WiredChart} {e f : ℕ} → IsClosest chart e f → IsNextRace chart e f
next_race h = (h.race, h.next)

-- so what holds of the one holds of the other
pub closest_of_rounds : ClosestRacesByTwo → ClosestRacesOfRounds
closest_of_rounds law queues n d e r f q accepted a b =
    let told = law queues n d e r f q accepted a b in (
      λ h. elim (told.0 (next_race h)) [
        | inl within ↦ inl (within.0, closest within.1)
        | inr over ↦ inr (over.0, closest over.1)
      ],
      λ h. closest (told.1 (elim h [
        | inl within ↦ inl (within.0, next_race within.1)
        | inr over ↦ inr (over.0, next_race over.1)
      ])),
    )

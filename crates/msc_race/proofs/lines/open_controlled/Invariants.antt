use Rattle.std.proofs.Common.{◌≡◌, ℕ, ◌⊎◌, ◌↔◌, true, length}
use Rattle.bit_rows.specs.Rows.{has}
use Rattle.msc_race.specs.Fronts.{IsToOpen}
use Rattle.msc_race.proofs.lines.open_controlled.Given as goal

abbrev pub invariant-loop-y : goal.invariant-loop-y
invariant-loop-y l =
    (length l.set ≡ length l.initial.set)
    × ((y : ℕ) → (has l.set y ≡ true)
    ↔ ((has l.initial.set y ≡ true) ⊎ IsToOpen l.choice.wiring.chart.now.events l.left l.f l.y y))

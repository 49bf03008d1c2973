-- Where a walk along a line ends.
use Rattle.std.proofs.Common.{◌≡◌, ℕ, ◌<◌, ◌≤◌, Bool, true, List, length, get_or, sym, ◌∙◌, arith, inl, inr}
use Rattle.msc_chart.specs.Lists.{occurs}
use Rattle.msc_chart.specs.Charts.{line, segment, before, IsInTextOrder}
use Rattle.msc_chart.specs.Drawings.{Drawing}
use Rattle.msc_chart.specs.Orders.{WiredChart}
use Rattle.msc_chart.proofs.Drawn.{before_from}
use Rattle.msc_race.proofs.Making.LinkLemmas.{any_default}
use Rattle.msc_ready.specs.Beginnings.{HasFronts, IsFront}
use Rattle.msc_ready.specs.Looking.{NoneComesFrom}
use Rattle.msc_ready.specs.Readiness.{MayComeReady}
use Rattle.msc_ready.proofs.Shared.{before_parts, controlled_or_input}

-- the front that is read is that of the line
pub front_read : (d : Drawing) (run fronts : List ℕ) (i f : ℕ) → HasFronts d run fronts → i < length d.instances
    → f ≡ get_or fronts i f → f ≡ get_or fronts i 0
front_read d run fronts i f held below read =
    let each = held.each in
    read ∙ any_default fronts i f 0 (omega (arith, each, below))

module _ (chart : WiredChart) (ready : ℕ → Bool) (text : IsInTextOrder chart.events) (run : List ℕ) (x : ℕ) (below : x < length chart.events) where
  -- behind the events of a line none is left of it
  pub none_behind : (i f : ℕ) → IsFront chart.events run i f → f ≤ x → (line chart.events x ≡ i → ⊥) → NoneComesFrom chart ready run i x
  none_behind i f front later other y past same may =
      let y_below = may.may.event in
      let on = front.reach y (omega (arith, later, past)) y_below same in
      let low : line chart.events f ≤ line chart.events x = text.lines f x later below in
      let high : line chart.events x ≤ line chart.events y = text.lines x y past y_below in
      other (omega (arith, low, high, on, same))

  -- where an event of a ready line may come, all that is drawn before one above it has occurred
  pub settled_above : (y : ℕ) → x ≤ y → line chart.events y ≡ line chart.events x → ready (line chart.events y) ≡ true
      → MayComeReady chart ready run y → (z : ℕ) → before chart.events z x ≡ true → occurs run z ≡ true
  settled_above y past same set may z b =
      let parts = before_parts chart.events z x b in
      let y_below = may.may.event in
      let rises : segment chart.events x ≤ segment chart.events y = text.rising x y past y_below (sym same) in
      let lower : segment chart.events z < segment chart.events x = parts.3 in
      let above = before_from chart.events z y parts.0 y_below (parts.2 ∙ sym same) (omega (arith, rises, lower)) in
      elim (controlled_or_input chart.events y y_below) [
        | inl c ↦ may.may.controlled c z above
        | inr i ↦ may.awaited i set z above
      ]

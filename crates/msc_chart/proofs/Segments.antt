-- Where segments and lines end.
use Rattle.std.proofs.Common.{◌≡◌, ℕ, ◌<◌, ◌≤◌, true, List, length, sym, ◌∙◌, arith}
use Rattle.msc_chart.specs.declared.event.ChartEvent.{ChartEvent}
use Rattle.msc_chart.specs.Charts.{line, segment, before, ShareSegment, IsInTextOrder}
use Rattle.msc_chart.proofs.Drawn.{before_from}

module _ (events : List ChartEvent) (text : IsInTextOrder events) where
  -- after the first event that is not of its segment, all of its line are drawn after e
  pub segment_past : (e f : ℕ) → e < f → f < length events → (ShareSegment events e f → ⊥)
      → (y : ℕ) → f ≤ y → y < length events → line events e ≡ line events y → before events e y ≡ true
  segment_past e f e_f f_in other y f_y y_in same =
      let up : line events e ≤ line events f = text.lines e f (omega arith) f_in in
      let down : line events f ≤ line events y = text.lines f y f_y y_in in
      let on_line : line events e ≡ line events f = omega (arith, up, down, same) in
      let a : segment events e ≤ segment events f = text.rising e f (omega arith) f_in on_line in
      let b : segment events f ≤ segment events y = text.rising f y f_y y_in (sym on_line ∙ same) in
      let apart : segment events e ≡ segment events f → ⊥ = λ s. other (on_line, s) in
      before_from events e y (omega arith) y_in same (omega (arith, a, b, apart))

-- The events of a chart: what the tests for their kinds and the drawn order say.
pub use Rattle.msc_chart.proofs.Drawn.{before_parts, controlled_no_input, controlled_or_input, controlled_parts, input_not_local, local_parts, not_both, output_controlled, output_not_local, partner_of_input, partner_of_output}
pub use Rattle.msc_chart.proofs.KindTests.{input_below, input_from_not, input_from_rest, output_below}
use Rattle.std.proofs.Common.{◌≡◌, ◌≢◌, ℕ, ◌<◌, true, List, ap, arith}
use Rattle.msc_chart.specs.declared.event.ChartEvent.{ChartEvent}
use Rattle.msc_chart.specs.Charts.{segment, before}

module _ (events : List ChartEvent) where
  -- what is drawn before an event is another one, since its segment is smaller
  pub before_differs : (x y : ℕ) → before events x y ≡ true → x ≢ y
  before_differs x y h same =
      let lower : segment events x < segment events y = (before_parts events x y h).3 in
      let level : segment events x ≡ segment events y = ap (λ (z : ℕ). segment events z) same in
      omega arith

-- Events by their kinds: an event that is tested is one of the chart, and what is none of the one kind
-- is of the other.
use Rattle.std.proofs.Common.{◌≡◌, ℕ, ◌<◌, true, false, inl, inr, List, length}
use Rattle.msc_chart.specs.declared.event.ChartEvent.{ChartEvent}
use Rattle.msc_chart.specs.Charts.{is_output, is_input, is_local, is_controlled}
use Rattle.msc_chart.proofs.Drawn.{controlled_or_input, input_parts, output_or_input, output_parts}

module _ (events : List ChartEvent) where
  -- an output of the chart is an event of it
  pub output_below : (e : ℕ) → is_output events e ≡ true → e < length events
  output_below e h = (output_parts events e h).0

  -- an input of the chart is an event of it
  pub input_below : (e : ℕ) → is_input events e ≡ true → e < length events
  input_below e h = (input_parts events e h).0

  -- an event that is neither an output nor local is an input
  pub input_from_not : (e : ℕ) → e < length events → is_output events e ≡ false
      → is_local events e ≡ false → is_input events e ≡ true
  input_from_not e below none away = elim (output_or_input events e below away) [ inl o ↦ absurd cc | inr i ↦ i ]

  -- an event that is not controlled is an input
  pub input_from_rest : (e : ℕ) → e < length events → is_controlled events e ≡ false
      → is_input events e ≡ true
  input_from_rest e below none = elim (controlled_or_input events e below) [ inl c ↦ absurd cc | inr i ↦ i ]

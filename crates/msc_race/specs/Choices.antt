-- What a witness is made from, as the code holds it.
use Rattle.std.specs.Prelude.{◌≡◌, ℕ, ◌<◌, length}
use Rattle.msc_chart.specs.Drawings.{IsAccepted}
use Rattle.msc_chart.specs.Orders.{WiredChart, IsEnforcedOrder}
use Rattle.msc_chart.specs.Wirings.{wired_by}
use Rattle.msc_order.specs.Tables.{orders}
use Rattle.msc_race.specs.declared.choosing.Choice.{Choice}

-- the chart under the architecture
abbrev pub wired_chart : Choice → WiredChart
wired_chart c = wired_by c.wiring

-- the number of events
abbrev pub event_count : Choice → ℕ
event_count c = length c.wiring.chart.now.events

-- the chart was accepted, the order is its enforced order, and e is an event of it
pub record IsChoice (c : Choice) : Type 0 where
  pub accepted : IsAccepted c.wiring.chart.now
  pub enforced : IsEnforcedOrder (wired_chart c) (orders c.order.now)
  pub square : length c.order.now ≡ event_count c
  pub known : c.e < event_count c

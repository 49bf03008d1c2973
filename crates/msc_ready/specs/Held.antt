-- A chart under an architecture, with its ready instances and its visual order, as contracts see it.
use Rattle.std.specs.Prelude.{◌≡◌, ℕ, Bool, true, List, length, get_or}
use Rattle.msc_chart.specs.declared.queue.Queues.{Queues}
use Rattle.msc_chart.specs.Drawings.{Drawing}
use Rattle.msc_chart.specs.Orders.{WiredChart, wired, IsVisualOrder}
use Rattle.msc_order.specs.Tables.{Table, orders}

-- whether line i is ready: a line of which the list says nothing is
abbrev pub ready_of : List Bool → ℕ → Bool
ready_of lines i = get_or lines i true

-- a chart, an architecture, which lines are ready, and an order of the chart's events
pub record ReadyChart : Type 0 where
  pub chart : Drawing
  pub queues : Queues
  pub lines : List Bool
  pub order : Table

-- these four
abbrev pub ready_chart : Drawing → Queues → List Bool → Table → ReadyChart
ready_chart chart queues lines order = record { chart = chart; queues = queues; lines = lines; order = order }

-- the chart and the queues of its messages
abbrev pub wiring_of : ReadyChart → WiredChart
wiring_of r = wired r.queues r.chart

-- which lines are ready
abbrev pub ready_in : ReadyChart → ℕ → Bool
ready_in r = ready_of r.lines

-- the order is the visual order, by which the ready order is told
pub record HasVisualOrder (r : ReadyChart) : Type 0 where
  pub visual : IsVisualOrder r.chart.events (orders r.order)
  pub square : length r.order ≡ length r.chart.events

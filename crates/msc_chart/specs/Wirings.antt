-- A chart under an architecture, as the crates above hold it.
use Rattle.std.specs.Prelude.{ℕ, length}
use Rattle.msc_chart.specs.declared.wiring.Wiring.{Wiring}
use Rattle.msc_chart.specs.Orders.{WiredChart, wired}

-- the chart with its queues
abbrev pub wired_by : Wiring → WiredChart
wired_by w = wired w.queues w.chart.now

-- the number of events
abbrev pub size : Wiring → ℕ
size w = length w.chart.now.events

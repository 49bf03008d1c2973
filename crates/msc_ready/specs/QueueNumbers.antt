-- The numbers of the queues of a chart's messages, as the code holds them for each event.
use Rattle.std.specs.Prelude.{◌≡◌, ℕ, ◌<◌, false, List, length, get_or}
use Rattle.msc_chart.specs.Charts.{is_local}
use Rattle.msc_chart.specs.Orders.{WiredChart, queue}

-- of the first n events, the list has the number of the queue of each output and input
pub record AreQueueNumbersTo (chart : WiredChart) (n : ℕ) (numbers : List ℕ) : Type 0 where
  pub many : length numbers ≡ n
  pub each : (x : ℕ) → x < n → is_local chart.events x ≡ false → get_or numbers x 0 ≡ queue chart x

-- of all events
abbrev pub AreQueueNumbers : WiredChart → List ℕ → Type 0
AreQueueNumbers chart numbers = AreQueueNumbersTo chart (length chart.events) numbers

-- Events of two rounds, and what they are in the chart.
use Rattle.std.proofs.Common.{◌≡◌, ℕ, ◌<◌, true, length, sym, ◌∙◌}
use Rattle.msc_chart.specs.Charts.{is_input, IsInTextOrder}
use Rattle.msc_chart.specs.Drawings.{Drawing}
use Rattle.msc_chart.specs.Rounds.{two_rounds}
use Rattle.msc_chart.proofs.KindTests.{input_below}
use Rattle.msc_chart.proofs.RoundEvents.{events_in, input_same}
use Rattle.msc_report.specs.Rounds.{once}

-- an input of two rounds is an event of them
pub input_in : (d : Drawing) (k : ℕ) → is_input (two_rounds d).events k ≡ true → k < length (two_rounds d).events
input_in d k is = input_below (two_rounds d).events k is

-- and its event in the chart is an input
pub input_once : (d : Drawing) → IsInTextOrder d.events → (k : ℕ) → is_input (two_rounds d).events k ≡ true → is_input d.events (once d k) ≡ true
input_once d ordered k is =
    let within = events_in 2 (length d.messages) d.events k (input_in d k is) in
    sym (input_same 2 (length d.messages) d.events ordered k within) ∙ is

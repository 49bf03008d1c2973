-- What is known of an execution when its instances have ended: of each log, of the places of each
-- queue, and of the clocks.
use Rattle.std.specs.Prelude.{◌≡◌, ℕ, ◌<◌, ◌≤◌, ◌&&◌, List, [], length, get_or, map, filter, nat_eq, IsTrue}
use Rattle.std.specs.List.{concat}
use Rattle.msc_chart.specs.Orders.{WiredChart, queue}
use Rattle.msc_chart.specs.Charts.{partner, is_output, is_input}
use Rattle.msc_chart.specs.Lists.{occurs}
use Rattle.msc_gather.specs.Schedule.{is_logged, KeepLines}
use Rattle.msc_execution.specs.Logs.{Begins}
use Rattle.msc_execution.specs.Clocks.{Places, messages, place_clock, greatest_offer, offer_of}

-- the outputs whose messages a log took from a queue, in its order
unfoldable pub taken_from : WiredChart → ℕ → List ℕ → List ℕ
taken_from chart q log =
    map (λ r. partner chart.events r)
    (filter (λ e. is_input chart.events e && nat_eq (queue chart e) q) log)

-- logs, and places of the queues, that fit one another
pub record IsTimed (chart : WiredChart) (instances : ℕ) (logs : List (List ℕ))
    (places : Places) : Type 0 where
  -- logs of the lines
  pub lines : KeepLines chart instances logs
  -- the places of a queue have the messages that were put there: those of its logged outputs
  pub put : (s : ℕ) → s < length chart.events → IsTrue (is_logged chart logs s)
      → IsTrue (is_output chart.events s) → IsTrue (occurs (messages (places (queue chart s))) s)
  pub was_put : (q s : ℕ) → IsTrue (occurs (messages (places q)) s)
      → (s < length chart.events) × IsTrue (is_output chart.events s)
      × IsTrue (is_logged chart logs s) × (queue chart s ≡ q)
  -- what a log took from a queue are the messages of its first places, in order
  pub taken : (i q : ℕ) → i < instances
      → Begins (taken_from chart q (get_or logs i [])) (messages (places q))
  -- the clock of a place is at least every offer at the places up to it, and is the offer of some
  -- message of the queue
  pub reaches : (q s : ℕ) → IsTrue (occurs (messages (places q)) s)
      → greatest_offer (offer_of chart logs places) (places q) s ≤ place_clock (places q) s
  pub offered : (q s : ℕ) → IsTrue (occurs (messages (places q)) s)
      → (t : ℕ) × IsTrue (occurs (messages (places q)) t)
      × (place_clock (places q) s ≡ offer_of chart logs places t)

-- the outputs of the logs: the messages put
unfoldable pub all_puts : WiredChart → List (List ℕ) → List ℕ
all_puts chart logs = filter (λ e. is_output chart.events e) (concat logs)

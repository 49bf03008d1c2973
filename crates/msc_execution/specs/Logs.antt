-- Logs of instances: which events are in them, in which order, which messages they are of, and the
-- clock of the instance along them.
use Rattle.std.specs.Prelude.{◌≡◌, ℕ, ◌<◌, max, cond, false, List, [], ◌∷◌, ◌++◌, filter, map, length, nat_eq, IsTrue}
use Rattle.std.specs.List.{range_with_len}
use Rattle.msc_chart.specs.declared.queue.Queues.{Queues}
use Rattle.msc_chart.specs.Lists.{occurs, Steps}
use Rattle.msc_chart.specs.Charts.{line, message, is_output, is_input, is_controlled, before}
use Rattle.msc_chart.specs.Drawings.{Drawing, sender_of}
use Rattle.msc_chart.specs.Orders.{queue_of}

-- xs is how ys begins
abbrev pub Begins : List ℕ → List ℕ → Type 0
Begins xs ys = (rest : List ℕ) × (ys ≡ xs ++ rest)

-- the events of line i, ascending
unfoldable pub line_events : Drawing → ℕ → List ℕ
line_events d i = filter (λ e. nat_eq (line d.events e) i) (range_with_len 0 (length d.events))

-- the outputs among these events
abbrev pub outputs : Drawing → List ℕ → List ℕ
outputs d xs = filter (is_output d.events) xs

-- the inputs among these events
abbrev pub inputs : Drawing → List ℕ → List ℕ
inputs d xs = filter (is_input d.events) xs

-- the outputs and local events among these events
abbrev pub controlled : Drawing → List ℕ → List ℕ
controlled d xs = filter (is_controlled d.events) xs

-- e may be logged after these events: it is new, and a controlled event has all that is drawn
-- before it behind it
pub record MayBeLogged (d : Drawing) (past : List ℕ) (e : ℕ) : Type 0 where
  pub new : occurs past e ≡ false
  pub drawn : IsTrue (is_controlled d.events e) → (x : ℕ) → IsTrue (before d.events x e)
      → IsTrue (occurs past x)

-- a log of line i: events of the line, each once; its controlled events are the first ones of the
-- line, in the order of the text, each after all that is drawn before it
pub record IsLogOf (d : Drawing) (i : ℕ) (log : List ℕ) : Type 0 where
  pub on_line : (e : ℕ) → IsTrue (occurs log e) → (e < length d.events) × (line d.events e ≡ i)
  pub steps : Steps (MayBeLogged d) [] log
  pub controlled : Begins (controlled d log) (controlled d (line_events d i))

-- the log has each event of the line
abbrev pub IsWholeLog : Drawing → ℕ → List ℕ → Type 0
IsWholeLog d i log = (e : ℕ) → e < length d.events → line d.events e ≡ i → IsTrue (occurs log e)

-- of these events, those whose messages go through the queue
abbrev pub events_at : Queues → Drawing → ℕ → List ℕ → List ℕ
events_at queues d q xs = filter (λ e. nat_eq (queue_of queues d (message d.events e)) q) xs

-- the outputs of a log to the queue
abbrev pub outputs_at : Queues → Drawing → ℕ → List ℕ → List ℕ
outputs_at queues d q log = events_at queues d q (outputs d log)

-- the inputs of a log from the queue
abbrev pub inputs_at : Queues → Drawing → ℕ → List ℕ → List ℕ
inputs_at queues d q log = events_at queues d q (inputs d log)

-- the messages that a log sends to the queue, in order
abbrev pub sent : Queues → Drawing → ℕ → List ℕ → List ℕ
sent queues d q log = map (message d.events) (outputs_at queues d q log)

-- the messages that a log takes from the queue, in order
abbrev pub received : Queues → Drawing → ℕ → List ℕ → List ℕ
received queues d q log = map (message d.events) (inputs_at queues d q log)

-- of the messages that it takes, those that instance i sends
abbrev pub received_from : Queues → Drawing → ℕ → ℕ → List ℕ → List ℕ
received_from queues d q i log = filter (λ m. nat_eq (sender_of d m) i) (received queues d q log)

-- What was read at the outputs and inputs of a log: the clock of the message's place, and that
-- place.
pub record Reading : Type 0 where
  pub read_at : ℕ → ℕ
  pub place_at : ℕ → ℕ

-- An instance's clock (Lamport 1978) after an event, from its clock before it: at an output the
-- clock that was read, at an input the greater of both, at a local event the same.
unfoldable pub clock_next : Drawing → (ℕ → ℕ) → ℕ → ℕ → ℕ
clock_next d read_at clock e =
    cond (is_output d.events e) (read_at e)
    (cond (is_input d.events e) (max clock (read_at e)) clock)

-- an instance's clock after a list of events
unfoldable pub along_from : Drawing → (ℕ → ℕ) → ℕ → List ℕ → ℕ
along_from d read_at clock [] = clock
along_from d read_at clock (e ∷ es) = along_from d read_at (clock_next d read_at clock e) es

-- an instance begins with the clock 0
abbrev pub clock_along : Drawing → (ℕ → ℕ) → List ℕ → ℕ
clock_along d read_at log = along_from d read_at 0 log

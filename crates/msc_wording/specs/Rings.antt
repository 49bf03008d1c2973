-- Rings of events that wait for each other, in words.
use Rattle.std.specs.Prelude.{ℕ, ◌-◌, cond, nat_lt, List, [], ◌∷◌, ◌++◌, codes, decimal, length, map, take}
use Rattle.msc_wording.specs.declared.ring.RingOrder.{RingOrder}
use Rattle.msc_wording.specs.declared.ring.RingOrder.TheVariants.{Drawn, Queued, Sent}
use Rattle.msc_wording.specs.declared.ring.SpokenRingStep.{SpokenRingStep}
use Rattle.msc_wording.specs.declared.way.Way.{Way}
use Rattle.msc_wording.specs.Events.{does_at_text, line_text, name_at, with_line}
use Rattle.msc_wording.specs.Numbers.{plural}
use Rattle.msc_wording.specs.Ways.{way_text}

-- a message is sent before it is received, of these parts
unfoldable pub sent_text : List ℕ → List ℕ → List ℕ → List ℕ
sent_text message line other = message ++ (codes " is sent" ++ (line ++ (codes " before it is received" ++ other)))

-- an instance does one thing before another, of these parts
unfoldable pub drawn_text : List ℕ → List ℕ → List ℕ → List ℕ
drawn_text owner first second = owner ++ (codes " " ++ (first ++ (codes " before it " ++ (second ++ codes ", as drawn"))))

-- a message has to be sent before another, of these parts
unfoldable pub first_sent_text : List ℕ → List ℕ → List ℕ
first_sent_text first second = first ++ (codes " has to be sent before " ++ second)

-- and why, of these parts
unfoldable pub queued_text : List ℕ → List ℕ → List ℕ → List ℕ
queued_text sent reader way = sent ++ (codes ": " ++ (reader ++ (codes " receives it first, and " ++ way)))

-- the steps of a ring: from an output to its input, to an event below, and from an output to another
abbrev pub sent_step : SpokenRingStep → List ℕ
sent_step step = sent_text step.first.message.now (line_text step.first.line) (line_text step.second.line)

abbrev pub drawn_step : List (List ℕ) → SpokenRingStep → List ℕ
drawn_step names step =
    drawn_text (name_at names step.first.owner) (does_at_text names step.first) (does_at_text names step.second)

abbrev pub queued_step : List (List ℕ) → SpokenRingStep → Way → List ℕ
queued_step names step way =
    queued_text
    (first_sent_text (with_line step.first.message.now step.first.line) (with_line step.second.message.now step.second.line))
    (name_at names step.first.peer) (way_text way)

-- a step, by why its first event has to come first
abbrev pub ring_step : List (List ℕ) → SpokenRingStep → RingOrder → List ℕ
ring_step names step Sent = sent_step step
ring_step names step Drawn = drawn_step names step
ring_step names step (Queued way) = queued_step names step way

-- how many more steps there are
abbrev pub more_steps : ℕ → List ℕ
more_steps more = codes "and " ++ (decimal more ++ (codes " more " ++ plural more (codes "step") (codes "steps")))

-- the first eight steps, and how many more there are
abbrev pub ring_notes : List (List ℕ) → List SpokenRingStep → List (List ℕ)
ring_notes names steps =
    map (λ step. ring_step names step step.order) (take 8 steps)
    ++ cond (nat_lt 8 (length steps)) (more_steps (length steps - 8) ∷ []) []

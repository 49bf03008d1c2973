-- The events of a scenario of a diagram, as findings show them. Numbers of statements say which arrow
-- draws each event.
use Rattle.std.specs.Prelude.{ℕ, cond, ◌&&◌, List, [], Option, None, Some, length, map, slice_get, unwrap_or}
use Rattle.std.specs.List.{range_with_len, zip}
use Rattle.msc_chart.specs.Charts.{is_local}
use Rattle.msc_chart.specs.Drawings.{Drawing}
use Rattle.msc_chart.specs.declared.queue.LinkKind.TheVariants.{Pair}
use Rattle.msc_chart.specs.declared.queue.Queues.{Queues}
use Rattle.msc_findings.specs.declared.scenario.LoopRound.{LoopRound}
use Rattle.msc_shown_chart.specs.Shown.{shown_as, PlainEvent}
use Rattle.msc_shown_chart.specs.Words.{no_words}
use Rattle.msc_wording.specs.declared.event.Act.TheVariants.{Acts, Loses}
use Rattle.msc_shown_diagram.specs.Words.{PlainArrow}

-- an event that no arrow draws; no rule speaks of it
abbrev pub no_event : PlainEvent
no_event = record { act = Acts; owner = 0; peer = 0; kind = Pair; queue = 0; words = no_words }

-- an event as the output of a message that is lost, to this line
abbrev pub lost_event : ℕ → PlainEvent → PlainEvent
lost_event to e = record {
  act = Loses;
  owner = e.owner;
  peer = to;
  kind = e.kind;
  queue = e.queue;
  words = e.words;
}

-- event e of a chart under an architecture, of this arrow: an action may be a message that is lost
abbrev pub arrow_event : Drawing → Queues → ℕ → PlainArrow → PlainEvent
arrow_event d queues e a =
    cond (is_local d.events e && a.loses) (lost_event a.to (shown_as d queues a.words e)) (shown_as d queues a.words e)

abbrev pub event_by : Drawing → Queues → ℕ → Option PlainArrow → PlainEvent
event_by d queues e None = no_event
event_by d queues e (Some a) = arrow_event d queues e a

-- the arrow of this number
abbrev pub arrow_at : List PlainArrow → Option ℕ → Option PlainArrow
arrow_at words None = None
arrow_at words (Some number) = slice_get words number

-- the arrow of event e
abbrev pub words_at : List PlainArrow → List ℕ → ℕ → Option PlainArrow
words_at words arrows e = arrow_at words (slice_get arrows e)

-- all events of a chart
abbrev pub shown_at : Drawing → Queues → List PlainArrow → List ℕ → ℕ → PlainEvent
shown_at d queues words arrows e = event_by d queues e (words_at words arrows e)

abbrev pub shown_events : Drawing → Queues → List PlainArrow → List ℕ → List PlainEvent
shown_events d queues words arrows = map (shown_at d queues words arrows) (range_with_len 0 (length d.events))

-- the list of this number
abbrev pub numbers_at : List (List ℕ) → ℕ → List ℕ
numbers_at lists number = unwrap_or (slice_get lists number) []

-- the loops around the arrow of event e
abbrev pub loops_of_arrow : List (List ℕ) → Option ℕ → List ℕ
loops_of_arrow loops None = []
loops_of_arrow loops (Some number) = numbers_at loops number

abbrev pub loops_at : List (List ℕ) → List ℕ → ℕ → List ℕ
loops_at loops arrows e = loops_of_arrow loops (slice_get arrows e)

-- these rounds of these loops
abbrev pub loop_round : ℕ × ℕ → LoopRound
loop_round p = record { begin = p.0; round = p.1 }

abbrev pub loop_rounds : List ℕ → List ℕ → List LoopRound
loop_rounds loops rounds = map loop_round (zip loops rounds)

-- those of each event of a chart
abbrev pub rounds_at : List (List ℕ) → List ℕ → List (List ℕ) → ℕ → List LoopRound
rounds_at loops arrows rounds e = loop_rounds (loops_at loops arrows e) (numbers_at rounds e)

abbrev pub shown_rounds : Drawing → List (List ℕ) → List ℕ → List (List ℕ) → List (List LoopRound)
shown_rounds d loops arrows rounds = map (rounds_at loops arrows rounds) (range_with_len 0 (length d.events))

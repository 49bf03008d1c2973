-- Charts of several rounds. Each line has its events again in each round, those of a round before
-- those of the next, and the messages of different rounds are different. So each instance begins
-- its next round when its own line is done, and none waits for another. The rule is our own.
--
-- Rounds are numbered from 0 here, and from 1 where they are shown.
use Rattle.std.specs.Prelude.{ℕ, ◌+◌, ◌-◌, ◌*◌, ◌/◌, ◌%◌, ◌<◌, ◌≤◌, cond, List, length, map, filter, count_by}
use Rattle.std.specs.List.{range_with_len}
use Rattle.msc_chart.specs.declared.event.ChartEvent.{ChartEvent}
use Rattle.msc_chart.specs.declared.TheConstants.{ROUND_ACTION_LIMIT, ROUND_MESSAGE_LIMIT}
use Rattle.msc_chart.specs.declared.fault.UnrollFault.{UnrollFault}
use Rattle.msc_chart.specs.declared.fault.UnrollFault.TheVariants.{TooManyMessages, TooManyActions, Memory}
use Rattle.msc_chart.specs.declared.message.Message.{Message}
use Rattle.msc_chart.specs.Charts.{line, segment, kind, partner, message, acts, line_start}
use Rattle.msc_chart.specs.Drawings.{Drawing, message_at, label_of}

-- the first event of the line of event e
unfoldable pub first_of : List ChartEvent → ℕ → ℕ
first_of events e = line_start events (line events e)

-- the number past the last event of the line of event e
unfoldable pub past_of : List ChartEvent → ℕ → ℕ
past_of events e = line_start events (line events e + 1)

-- how many events the line of event e has
unfoldable pub count_of : List ChartEvent → ℕ → ℕ
count_of events e = past_of events e - first_of events e

-- how many segments the line of event e has: segments are numbered from 0, and do not fall
unfoldable pub segments_of : List ChartEvent → ℕ → ℕ
segments_of events e = segment events (past_of events e - 1) + 1

-- The number of event e in round r of n rounds. All lines before its own have their events n times,
-- and its own has r rounds before this one.
unfoldable pub number_of : ℕ → List ChartEvent → ℕ → ℕ → ℕ
number_of n events e r = n * first_of events e + (r * count_of events e + (e - first_of events e))

-- how many events stand before event k of n rounds on its line: event k / n of the chart is on it
unfoldable pub offset_of : ℕ → List ChartEvent → ℕ → ℕ
offset_of n events k = k - n * first_of events (k / n)

-- the event of the chart that event k of n rounds is
unfoldable pub event_of : ℕ → List ChartEvent → ℕ → ℕ
event_of n events k = first_of events (k / n) + offset_of n events k % count_of events (k / n)

-- the round of event k of n rounds
unfoldable pub round_of : ℕ → List ChartEvent → ℕ → ℕ
round_of n events k = offset_of n events k / count_of events (k / n)

-- the events of the chart that those below k of n rounds are
unfoldable pub events_below : ℕ → List ChartEvent → ℕ → List ℕ
events_below n events k = map (event_of n events) (range_with_len 0 k)

-- the local ones of them
unfoldable pub locals_below : ℕ → List ChartEvent → ℕ → List ℕ
locals_below n events k = filter (λ e. acts (kind events e)) (events_below n events k)

-- how many there are, which is the number of the next one
unfoldable pub count_below : ℕ → List ChartEvent → ℕ → ℕ
count_below n events k = count_by (λ e. acts (kind events e)) (events_below n events k)

-- the segment in round r of event e: those of earlier rounds are before it
unfoldable pub segment_in : List ChartEvent → ℕ → ℕ → ℕ
segment_in events e r = r * segments_of events e + segment events e

-- What event k of n rounds is about, where one round has so many messages: message m of round r has
-- the number of m behind all messages of earlier rounds.
unfoldable pub subject_in : ℕ → ℕ → List ChartEvent → ℕ → ℕ
subject_in n messages events k =
    cond (acts (kind events (event_of n events k))) (count_below n events k)
    (round_of n events k * messages + message events (event_of n events k))

-- event k of n rounds
unfoldable pub repeated_event : ℕ → ℕ → List ChartEvent → ℕ → ChartEvent
repeated_event n messages events k = record {
  line = line events (event_of n events k);
  segment = segment_in events (event_of n events k) (round_of n events k);
  kind = kind events (event_of n events k);
  partner = number_of n events (partner events (event_of n events k)) (round_of n events k);
  subject = subject_in n messages events k;
}

-- the events of n rounds
unfoldable pub repeated_events : ℕ → ℕ → List ChartEvent → List ChartEvent
repeated_events n messages events = map (repeated_event n messages events) (range_with_len 0 (n * length events))

-- a message in round r of n
unfoldable pub message_in : ℕ → List ChartEvent → Message → ℕ → Message
message_in n events x r = record { name = x.name; number = x.number; output = number_of n events x.output r }

-- message m of n rounds
unfoldable pub repeated_message : ℕ → Drawing → ℕ → Message
repeated_message n d m =
    message_in n d.events (message_at d (m % length d.messages)) (m / length d.messages)

-- the chart of n rounds of this one
abbrev pub repeated : ℕ → Drawing → Drawing
repeated n d = record {
  name = d.name;
  instances = d.instances;
  events = repeated_events n (length d.messages) d.events;
  messages = map (repeated_message n d) (range_with_len 0 (n * length d.messages));
  actions = map (label_of d) (locals_below n d.events (n * length d.events));
}

-- the chart of two rounds
abbrev pub two_rounds : Drawing → Drawing
two_rounds = repeated 2

-- a chart has few enough messages and actions for two rounds
pub record IsShort (d : Drawing) : Type 0 where
  pub messages : length d.messages ≤ ROUND_MESSAGE_LIMIT
  pub actions : length d.actions ≤ ROUND_ACTION_LIMIT

-- why two rounds of a chart are no chart: the first of these that stands
abbrev pub IsUnrollFault : Drawing → UnrollFault → Type 0
IsUnrollFault d TooManyMessages = ROUND_MESSAGE_LIMIT < length d.messages
IsUnrollFault d TooManyActions = (length d.messages ≤ ROUND_MESSAGE_LIMIT) × (ROUND_ACTION_LIMIT < length d.actions)
IsUnrollFault d Memory = ⊥

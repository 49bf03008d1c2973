-- The chart of a draft.
use Rattle.std.specs.Prelude.{◌≡◌, ℕ, ◌<◌, ◌≤◌, List, [], length, get_or, false, take, count_by, None, IsTrue, ◌↔◌}
use Rattle.msc_chart.specs.declared.TheConstants.{ACTION_LIMIT, EVENT_LIMIT, INSTANCE_LIMIT, MESSAGE_LIMIT}
use Rattle.msc_chart.specs.declared.event.ChartEvent.{ChartEvent}
use Rattle.msc_chart.specs.declared.message.Message.{Message}
use Rattle.msc_chart.specs.Events.{instances_of, acts_of, events_of}
use Rattle.msc_chart.specs.Charting.{events_from, messages_from, texts_of}
use Rattle.msc_chart.specs.Charts.{line, partner, message, action, acts, is_output, is_local, IsMatched, IsInTextOrder, AreOnLines, IsAcyclic}
use Rattle.msc_parser.specs.Grammar.{Tree}

-- the events of the chart of a draft, in the order of the text
unfoldable pub chart_events : Tree → List ChartEvent
chart_events draft = events_from (acts_of draft) 0 (events_of draft)

-- what a contract sees of a chart: its name, the names of its instances, its events, its messages and
-- the texts of its actions
pub record Drawing : Type 0 where
  pub name : List ℕ
  pub instances : List (List ℕ)
  pub events : List ChartEvent
  pub messages : List Message
  pub actions : List (List ℕ)

-- a chart of these parts
abbrev pub drawing : List ℕ → List (List ℕ) → List ChartEvent → List Message → List (List ℕ) → Drawing
drawing name instances events messages actions =
    record { name = name; instances = instances; events = events; messages = messages; actions = actions }

-- the chart of a draft
abbrev pub chart_of : Tree → Drawing
chart_of draft = record {
  name = draft.name;
  instances = instances_of draft;
  events = chart_events draft;
  messages = messages_from 0 (acts_of draft);
  actions = texts_of (acts_of draft);
}

-- what stands at a number past the last message; no rule speaks of it
abbrev pub no_message : Message
no_message = record { name = []; number = None; output = 0 }

-- message m
abbrev pub message_at : Drawing → ℕ → Message
message_at d m = get_or d.messages m no_message

-- the text of event e, a local event
unfoldable pub label_of : Drawing → ℕ → List ℕ
label_of d e = get_or d.actions (action d.events e) []

-- the output of message m
unfoldable pub output_of : Drawing → ℕ → ℕ
output_of d m = (message_at d m).output

-- the input of message m
unfoldable pub input_of : Drawing → ℕ → ℕ
input_of d m = partner d.events (output_of d m)

-- the instance that sends message m
unfoldable pub sender_of : Drawing → ℕ → ℕ
sender_of d m = line d.events (output_of d m)

-- the instance that takes message m
unfoldable pub receiver_of : Drawing → ℕ → ℕ
receiver_of d m = line d.events (input_of d m)

-- each message has its output and its input among the events, and each of these has its message
pub record HasMessages (d : Drawing) : Type 0 where
  pub output : (m : ℕ) → m < length d.messages → IsTrue (is_output d.events (output_of d m))
  pub own : (m : ℕ) → m < length d.messages → message d.events (output_of d m) ≡ m
  pub known : (e : ℕ) → e < length d.events → is_local d.events e ≡ false → message d.events e < length d.messages
  pub back : (e : ℕ) → IsTrue (is_output d.events e) → output_of d (message d.events e) ≡ e
  pub shared : (e : ℕ) → e < length d.events → message d.events (partner d.events e) ≡ message d.events e

-- the local events are numbered by the actions, in the order of the text
pub record HasActions (d : Drawing) : Type 0 where
  pub each : length d.actions ≡ count_by (λ x. acts x.kind) d.events
  pub own : (e : ℕ) → IsTrue (is_local d.events e) → action d.events e ≡ count_by (λ x. acts x.kind) (take e d.events)
  pub known : (e : ℕ) → IsTrue (is_local d.events e) → action d.events e < length d.actions

-- what holds of every chart that was built
pub record IsAccepted (d : Drawing) : Type 0 where
  pub few_instances : length d.instances ≤ INSTANCE_LIMIT
  pub few_messages : length d.messages ≤ MESSAGE_LIMIT
  pub few_actions : length d.actions ≤ ACTION_LIMIT
  pub few_events : length d.events ≤ EVENT_LIMIT
  pub on_lines : AreOnLines (length d.instances) d.events
  pub in_text_order : IsInTextOrder d.events
  pub matched : IsMatched d.events
  pub acyclic : IsAcyclic d.events
  pub has_messages : HasMessages d
  pub has_actions : HasActions d

-- the events of line i are those from this number to that, which is past the last
abbrev pub IsLine : Drawing → ℕ → ℕ → ℕ → Type 0
IsLine d i start end = (e : ℕ) → e < length d.events → (line d.events e ≡ i) ↔ ((start ≤ e) × (e < end))

-- What the events of a draft become in its chart.
use Rattle.std.specs.Prelude.{ℕ, ◌+◌, Bool, true, cond, List, [], ◌∷◌, take, count_by}
use Rattle.std.specs.List.{position_or_len}
use Rattle.msc_chart.specs.declared.event.EventKind.{EventKind}
use Rattle.msc_chart.specs.declared.event.EventKind.TheVariants.{Output, Input, Local}
use Rattle.msc_chart.specs.declared.event.ChartEvent.{ChartEvent}
use Rattle.msc_chart.specs.declared.message.Message.{Message}
use Rattle.msc_chart.specs.Events.{DraftEvent, MessageEnd, Act, other_end, is_end, is_sent, is_taken, is_action}
use Rattle.msc_chart.specs.Events.Act.{OfMessage, Action}

-- the place of the first act that is this end, or the number of acts
abbrev pub end_place : List Act → MessageEnd → ℕ
end_place acts e = position_or_len (is_end e) acts

-- the output of the message of an end
abbrev pub output_end : MessageEnd → MessageEnd
output_end e = record { sends = true; key = e.key }

-- how many outputs stand before a place
abbrev pub outputs_before : List Act → ℕ → ℕ
outputs_before acts e = count_by is_sent (take e acts)

-- how many actions stand before a place
abbrev pub actions_before : List Act → ℕ → ℕ
actions_before acts e = count_by is_action (take e acts)

-- an end of a message is an output or an input, an action a local event
abbrev pub act_kind : Act → EventKind
act_kind (OfMessage x) = cond x.sends Output Input
act_kind (Action text) = Local

-- whether an act becomes an event of this kind
abbrev pub is_of : EventKind → Act → Bool
is_of Output = is_sent
is_of Input = is_taken
is_of Local = is_action

-- the event at the other end of its message; an action is its own
abbrev pub partner_of : List Act → ℕ → Act → ℕ
partner_of acts e (OfMessage x) = end_place acts (other_end x)
partner_of acts e (Action text) = e

-- Messages are numbered by their outputs, and actions by themselves, in the order of the text.
abbrev pub subject_of : List Act → ℕ → Act → ℕ
subject_of acts e (OfMessage x) = outputs_before acts (end_place acts (output_end x))
subject_of acts e (Action text) = actions_before acts e

-- event e of a chart, of a draft with these acts
abbrev pub event_of : List Act → ℕ → DraftEvent → ChartEvent
event_of acts e x = record {
  line = x.line;
  segment = x.segment;
  kind = act_kind x.act;
  partner = partner_of acts e x.act;
  subject = subject_of acts e x.act;
}

-- the events from number e on
abbrev pub events_from : List Act → ℕ → List DraftEvent → List ChartEvent
events_from acts e [] = []
events_from acts e (x ∷ xs) = event_of acts e x ∷ events_from acts (e + 1) xs

-- the messages of the acts from this place on, by their outputs
abbrev pub messages_from : ℕ → List Act → List Message
messages_from e [] = []
messages_from e (OfMessage x ∷ xs) =
    cond x.sends
    (record { name = x.key.name; number = x.key.number; output = e } ∷ messages_from (e + 1) xs)
    (messages_from (e + 1) xs)
messages_from e (Action text ∷ xs) = messages_from (e + 1) xs

-- the texts of the actions
abbrev pub texts_of : List Act → List (List ℕ)
texts_of [] = []
texts_of (OfMessage x ∷ xs) = texts_of xs
texts_of (Action text ∷ xs) = text ∷ texts_of xs

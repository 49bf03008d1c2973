-- What findings show of the events of a chart, by the chart and its text.
use Rattle.std.specs.Prelude.{◌≡◌, ℕ, ◌<◌, cond, List, [], ◌++◌, codes, decimal, encode_utf8_all, get_or, length, map}
use Rattle.std.specs.String.{string_bytes}
use Rattle.msc_chart.specs.Charts.{is_local, message}
use Rattle.msc_chart.specs.Drawings.{label_of, message_at, Drawing}
use Rattle.msc_parser.specs.Drafts.{statements_of}
use Rattle.msc_chart.specs.declared.queue.Queues.{Queues}
use Rattle.msc_links.specs.Said.{queues_said}
use Rattle.msc_parser.specs.Grammar.{Tree}
use Rattle.msc_parser.specs.Parsing.{HasDraft}
use Rattle.msc_place.specs.Positions.{IsPosition}
use Rattle.msc_place.specs.Standing.{BeginsEvent, EndsEvent}
use Rattle.msc_place.specs.Texts.{shown_byte}
use Rattle.msc_place.specs.declared.places.EventPlace.{EventPlace}
use Rattle.msc_speech.specs.Messages.{action_said, message_said}
use Rattle.msc_spoken.specs.Showing.{shown_text}
use Rattle.msc_shown_chart.specs.declared.words.EventWords.{EventWords}

-- what is shown of an event: the message as sentences name it, the place of its statement as it is
-- printed, the statement's first byte and the place after its `;`, and its line
pub record Words : Type 0 where
  pub message : List ℕ
  pub place : List ℕ
  pub first : ℕ
  pub past : ℕ
  pub line : ℕ

-- that of the code
abbrev pub plain_words : EventWords → Words
plain_words w = record {
  message = string_bytes w.message;
  place = string_bytes w.place;
  first = w.first;
  past = w.past;
  line = w.line;
}

-- what stands at a number past the last event; no rule speaks of it
abbrev pub no_words : Words
no_words = record { message = []; place = []; first = 0; past = 0; line = 0 }

-- the name of a file as people read it
abbrev pub file_said : List ℕ → List ℕ
file_said file = encode_utf8_all (shown_text (map shown_byte file))

-- the name of an instance as people read it
abbrev pub name_said : List ℕ → List ℕ
name_said name = encode_utf8_all (shown_text name)

-- a place in a file
unfoldable pub position_said : List ℕ → ℕ → ℕ → List ℕ
position_said file line column = file ++ (codes ":" ++ (decimal line ++ (codes ":" ++ decimal column)))

-- what the message or the action of an event is called that begins on this line
abbrev pub event_said : Drawing → ℕ → ℕ → List ℕ
event_said d e line = cond (is_local d.events e) (action_said (label_of d e) line)
    (message_said (message_at d (message d.events e)).name (message_at d (message d.events e)).number)

-- this is shown of an event whose statement stands at these places of a text
pub record IsPlaced (d : Drawing) (file text : List ℕ) (e : ℕ) (at : EventPlace) (w : Words) : Type 0 where
  pub first : w.first ≡ at.start
  pub past : w.past ≡ at.«end»
  pub column : ℕ
  pub position : IsPosition text at.start w.line column
  pub place : w.place ≡ position_said file w.line column
  pub message : w.message ≡ event_said d e w.line

-- This is shown of event e of a chart, drawn in a text with this draft; the file of the text has
-- this name.
pub record IsEventWords (d : Drawing) (file text : List ℕ) (t : Tree) (e : ℕ) (w : Words) : Type 0 where
  pub begins : BeginsEvent text t e w.first
  pub ends : EndsEvent text t e w.past
  pub column : ℕ
  pub position : IsPosition text w.first w.line column
  pub place : w.place ≡ position_said file w.line column
  pub message : w.message ≡ event_said d e w.line

-- this is shown of the first n events
pub record AreEventWords (d : Drawing) (file text : List ℕ) (t : Tree) (n : ℕ) (words : List Words) : Type 0 where
  pub size : length words ≡ n
  pub each : (e : ℕ) → e < n → e < length (statements_of t.sections) → IsEventWords d file text t e (get_or words e no_words)

-- this is shown of all events of a chart, if the text has a draft
abbrev pub AreAllWords : Drawing → List ℕ → List ℕ → List Words → Type 0
AreAllWords d file text words = (length words ≡ length d.events)
    × ((t : Tree) → HasDraft text t → AreEventWords d file text t (length d.events) words)

-- an architecture as it is written
abbrev pub queues_written : Drawing → Queues → List ℕ
queues_written d queues = encode_utf8_all (shown_text (queues_said d queues))

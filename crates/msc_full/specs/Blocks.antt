-- What the diagnostics of findings have in common.
use Rattle.std.specs.Prelude.{ℕ, ◌==◌, List, Option, None, Some, map, slice_get}
use Rattle.std.specs.Borrow.{Bor}
use Rattle.std.specs.Option.{option_map}
use Rattle.msc_diagnostic.specs.declared.diagnostic.Level.{Level}
use Rattle.msc_diagnostic.specs.declared.diagnostic.NoteKind.{NoteKind}
use Rattle.msc_diagnostic.specs.declared.mark.Sign.{Sign}
use Rattle.msc_diagnostic.specs.Blocks.{diagnostic_text}
use Rattle.msc_diagnostic.specs.Plain.{Diagnostic, Mark, Note}
use Rattle.msc_wording.specs.declared.way.Way.{Way}
use Rattle.msc_wording.specs.Ways.{way_of}
use Rattle.msc_full.specs.declared.block.PairEvents.{PairEvents}
use Rattle.msc_full.specs.declared.block.PairNumbers.{PairNumbers}
use Rattle.msc_full.specs.declared.event.ShownEvent.{ShownEvent}
use Rattle.msc_full.specs.declared.event.ShownText.{ShownText}

-- how the messages of two events arrive
abbrev pub way_between : ShownEvent → ShownEvent → Way
way_between first second = way_of first.kind second.kind (first.queue == second.queue)

-- the mark of an event
abbrev pub mark_of : ShownEvent → Sign → List ℕ → Mark
mark_of event sign label = record { first = event.first; past = event.past; sign = sign; label = label }

abbrev pub note_of : NoteKind → List ℕ → List (List ℕ) → Note
note_of kind text rows = record { kind = kind; text = text; rows = rows }

-- texts, without who lends them
abbrev pub texts_of : List (Bor (List ℕ)) → List (List ℕ)
texts_of texts = map (λ text. text.now) texts

abbrev pub rows_of : Option (Bor (List (Bor (List ℕ)))) → Option (List (List ℕ))
rows_of rows = option_map (λ them. texts_of them.now) rows

-- a diagnostic of these parts
abbrev pub block_of : Level → List ℕ → List ℕ → List ℕ → List Mark → List Note → Diagnostic
block_of level id sentence place marks notes =
    record { level = level; id = id; sentence = sentence; place = Some place; marks = marks; notes = notes }

abbrev pub block_text : ShownText → Diagnostic → List ℕ
block_text text block = diagnostic_text text.colours text.source.now.ends text.source.now.text.now block

abbrev pub with_output : ShownEvent → ShownEvent → ShownEvent → Option ShownEvent → Option PairEvents
with_output first second needed None = None
with_output first second needed (Some output) =
    Some (record { first = first; second = second; needed = needed; output = output })

abbrev pub with_needed : ShownEvent → ShownEvent → Option ShownEvent → Option ShownEvent → Option PairEvents
with_needed first second None output = None
with_needed first second (Some needed) output = with_output first second needed output

abbrev pub with_second : ShownEvent → Option ShownEvent → Option ShownEvent → Option ShownEvent → Option PairEvents
with_second first None needed output = None
with_second first (Some second) needed output = with_needed first second needed output

abbrev pub with_first : Option ShownEvent → Option ShownEvent → Option ShownEvent → Option ShownEvent → Option PairEvents
with_first None second needed output = None
with_first (Some first) second needed output = with_second first second needed output

-- the events of these numbers, if they are all there
abbrev pub events_of : List ShownEvent → PairNumbers → Option PairEvents
events_of events n = with_first (slice_get events n.first) (slice_get events n.second) (slice_get events n.needed) (slice_get events n.output)

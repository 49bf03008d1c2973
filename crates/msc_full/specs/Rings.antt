-- Rings of events that wait for each other, as diagnostics.
use Rattle.std.specs.Prelude.{ℕ, List, [], ◌∷◌, Option, None, Some, codes, map, slice_get, take}
use Rattle.std.specs.List.{filter_map}
use Rattle.msc_diagnostic.specs.declared.diagnostic.Level.TheVariants.{Error}
use Rattle.msc_diagnostic.specs.declared.diagnostic.NoteKind.TheVariants as kinds
use Rattle.msc_diagnostic.specs.declared.mark.Sign.TheVariants.{Caret, Dash}
use Rattle.msc_diagnostic.specs.Plain.{Diagnostic, Mark, Note}
use Rattle.msc_wording.specs.Rings.{ring_notes}
use Rattle.msc_wording.specs.declared.ring.RingOrder.{RingOrder}
use Rattle.msc_wording.specs.declared.ring.RingOrder.TheVariants as orders
use Rattle.msc_wording.specs.declared.ring.SpokenRingStep.{SpokenRingStep}
use Rattle.msc_full.specs.declared.event.ShownEvent.{ShownEvent}
use Rattle.msc_full.specs.declared.event.ShownText.{ShownText}
use Rattle.msc_full.specs.declared.ring.EventStep.{EventStep}
use Rattle.msc_full.specs.declared.step.ShownStep.{ShownStep}
use Rattle.msc_full.specs.declared.step.StepOrder.{StepOrder}
use Rattle.msc_full.specs.declared.step.StepOrder.TheVariants.{Sent, Drawn, Queued}
use Rattle.msc_full.specs.Blocks.{block_of, block_text, mark_of, note_of, texts_of, way_between}

-- a step with its events, if both are there
abbrev pub step_to : StepOrder → ShownEvent → Option ShownEvent → Option EventStep
step_to order first None = None
step_to order first (Some second) = Some (record { first = first; second = second; order = order })

abbrev pub step_from : StepOrder → Option ShownEvent → Option ShownEvent → Option EventStep
step_from order None second = None
step_from order (Some first) second = step_to order first second

abbrev pub known_step : List ShownEvent → ShownStep → Option EventStep
known_step events step = step_from step.order (slice_get events step.first) (slice_get events step.second)

-- why the first event of a step has to come first; messages of one queue arrive in some way
abbrev pub ring_order : EventStep → StepOrder → RingOrder
ring_order step Sent = orders.Sent
ring_order step Drawn = orders.Drawn
ring_order step Queued = orders.Queued (way_between step.first step.second)

-- a step, as sentences name it
abbrev pub spoken_step : EventStep → SpokenRingStep
spoken_step step =
    record { first = step.first.spoken; second = step.second.spoken; order = ring_order step step.order }

-- a caret at the first event of a ring, and a dash at each of the next seven
abbrev pub ring_marks : ShownEvent → List EventStep → List Mark
ring_marks first others = mark_of first Caret [] ∷ map (λ step. mark_of step.first Dash []) (take 7 others)

-- a note of each of these texts
abbrev pub notes_of : List (List ℕ) → List Note
notes_of texts = map (λ text. note_of kinds.Note text []) texts

-- the texts of the notes on the steps
abbrev pub step_texts : List (List ℕ) → List EventStep → List (List ℕ)
step_texts names steps = ring_notes names (map spoken_step steps)

-- a ring that begins with this event, as a diagnostic
abbrev pub ring_block : List ℕ → List ℕ → ShownEvent → List EventStep → List Note → Diagnostic
ring_block id sentence first others notes =
    block_of Error id sentence first.place.now (ring_marks first others) notes

abbrev pub text_from : ShownText → List ℕ → List ℕ → ShownEvent → List EventStep → List Note → List ℕ
text_from text id sentence first others notes = block_text text (ring_block id sentence first others notes)

-- the text of a ring with these steps, or none if there are none
abbrev pub ring_text : ShownText → List ℕ → List ℕ → List EventStep → List ℕ
ring_text text id sentence [] = []
ring_text text id sentence (step ∷ steps) =
    text_from text id sentence step.first steps (notes_of (step_texts (texts_of text.names.now) (step ∷ steps)))

-- a chart that can never happen
abbrev pub never_text : ShownText → List ShownStep → List ℕ
never_text text steps =
    ring_text text (codes "never") (codes "this chart can never happen as it is drawn")
    (filter_map (known_step text.events.now) steps)

-- a text that is no chart because its events wait for each other
abbrev pub waiting_text : ShownText → List ShownStep → List ℕ
waiting_text text steps =
    ring_text text (codes "chart 9") (codes "these events wait for each other, so none of them can happen")
    (filter_map (known_step text.events.now) steps)

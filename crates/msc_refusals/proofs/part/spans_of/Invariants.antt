use Rattle.std.proofs.Common.{◌≡◌, map, take}
use Rattle.msc_refusals.specs.Parts.{places_of, span_at}
use Rattle.msc_refusals.proofs.part.spans_of.Given as goal

abbrev pub invariant-loop-note : goal.invariant-loop-note
invariant-loop-note l = l.spans.items
    ≡ map (span_at l.places.text (take l.count l.places.stand.events)) (places_of l.told.place (take l.note-index l.told.notes))

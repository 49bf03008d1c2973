use Rattle.std.proofs.Common.{◌≡◌, ℕ, List, [], ◌∷◌, ◌++◌, map, take, get_or, length, ◌<◌, ap, sym, ◌∙◌, subst}
use Rattle.std.proofs.lemmas.List.{map-append, take_more}
use Rattle.msc_fault_words.specs.declared.words.Span.{Span}
use Rattle.msc_notes.specs.declared.note.Note.{Note}
use Rattle.msc_refusals.specs.Parts.{one_place, places_of, span_at}
use Rattle.msc_refusals.proofs.PartLemmas.{places_more}
use Rattle.msc_refusals.proofs.part.spans_of.Goals as goal

pub loop-note-preserved : goal.loop-note-preserved
loop-note-preserved c =
    let place = c.args.told.now.place in
    let notes = c.args.told.now.notes in
    let i = c.loop-note.note-index in
    let note = c.note-item.result in
    let f : ℕ → Span = span_at c.args.places.now.text (take c.args.count c.args.places.now.stand.events) in
    let same : c.as_slice-note-items.result.now ≡ notes = c.as_slice-note-items.ensures in
    let less : i < length notes = subst (λ (l : List Note). i < length l) same c.loop-note-test.true in
    let item : note ≡ get_or notes i note = c.note-item.is ∙ ap (λ (l : List Note). get_or l i note) same in
    let next = take_more notes i note less ∙ ap (λ (n : Note). take i notes ++ n ∷ []) (sym item) in
    c.in_ok-push_span-2.ensures
    ∙ ap (λ (l : List Span). l ++ map f (one_place note.place)) c.loop-note.invariant
    ∙ sym (map-append f (places_of place (take i notes)) (one_place note.place))
    ∙ sym (ap (map f) (ap (places_of place) next ∙ places_more place (take i notes) note))

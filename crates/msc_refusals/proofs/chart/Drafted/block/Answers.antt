use Rattle.std.proofs.Common.{◌≡◌, ℕ, List, Option, map, take, length, ap, sym, ◌∙◌, subst}
use Rattle.std.proofs.lemmas.List.{length-map}
use Rattle.msc_fault_words.specs.ChartFaults.{chart}
use Rattle.msc_fault_words.specs.Words.{Words}
use Rattle.msc_fault_words.specs.declared.words.Span.{Span}
use Rattle.msc_notes.specs.Events.{own_view, owned_of, OwnStatement}
use Rattle.msc_notes.specs.FaultNotes.{AreChartNotes}
use Rattle.msc_notes.specs.Faults.{IsChartPlace}
use Rattle.msc_parser.specs.Parsing.{HasDraft}
use Rattle.msc_refusals.specs.Answers.{IsBlock}
use Rattle.msc_refusals.specs.Ends.{said_of, AreLent, SaidEnd}
use Rattle.msc_refusals.specs.Parts.{places_of, span_at}
use Rattle.msc_refusals.proofs.BlockLemmas.{in_words}
use Rattle.msc_refusals.proofs.chart.Drafted.block.Goals as goal

pub returns : goal.returns
returns c =
    let self = c.args.self.now in
    let r = c.args.lines.now.refused in
    let t = self.draft.now in
    let fault = c.args.fault in
    let place = c.in_ok-told.told.place in
    let notes = c.in_ok-told.told.notes in
    let same = c.requires.text in
    let draft : HasDraft self.places.now.text t = subst (λ (text : List ℕ). HasDraft text t) (sym same) c.requires.draft in
    let count : length self.events.now ≡ length (owned_of t.sections) = sym (length-map self.events.now own_view) ∙ ap length self.events_are in
    let spans = c.as_slice.ensures.value ∙ c.in_ok-spans.ensures
    ∙ ap (λ (text : List ℕ). map (span_at text (take (length self.events.now) self.places.now.stand.events)) (places_of place notes)) same
    ∙ ap (λ (n : ℕ). map (span_at r.text.now (take n self.places.now.stand.events)) (places_of place notes)) count in
    let words = c.in_ok-words.ensures ∙ ap (λ (l : List Span). chart place notes l c.lent.result fault) spans in
    let said = c.in_ok-end.ensures ∙ ap (λ (l : List OwnStatement). said_of l fault) self.events_are in
    in_words r t fault c.in_ok-bytes.bytes.items c.in_default.not-Cyclic (record {
      place = place;
      place_is = subst (λ (text : List ℕ). IsChartPlace text t fault place) same (c.in_ok-told.ensures.place draft);
      notes = notes;
      notes_are = subst (λ (text : List ℕ). AreChartNotes text t fault notes) same (c.in_ok-told.ensures.notes draft);
      places = self.places.now;
      text = same;
      places_are = c.known.ensures;
      «end» = c.lent.result;
      end_is = subst (λ (o : Option SaidEnd). AreLent o c.lent.result) said c.lent.ensures;
      block = subst (λ (w : Words). IsBlock r w c.in_ok-bytes.bytes.items) words c.in_ok-bytes.ensures;
    })

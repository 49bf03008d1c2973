use Rattle.std.proofs.Common.{◌≡◌, ℕ, List, option_map, slice_get, length, refl, ap, sym, ◌∙◌, subst}
use Rattle.std.proofs.lemmas.Option.{slice_get-map, slice_get_read}
use Rattle.msc_notes.specs.Events.{own_view, OwnStatement}
use Rattle.msc_parser.specs.Parsing.{HasDraft}
use Rattle.msc_place.specs.Standing.{BeginsEvent, EndsEvent}
use Rattle.msc_refusals.proofs.ring.RingReader.event_at.Goals as goal

pub returns-in_ok-event_in-in-Some-get : goal.returns-in_ok-event_in-in-Some-get
returns-in_ok-event_in-in-Some-get c =
    let self = c.args.self.now in
    let t = self.draft.now in
    let e = c.in-Some.e in
    let own = c.in-Some-get.event.now in
    let same : self.places.now.text ≡ self.refused.text.now = self.places_are in
    let stands = c.in-Some.ensures.stands t (subst (λ (text : List ℕ). HasDraft text t) (sym same) c.requires) in record {
      e = e;
      own = own_view own;
      listed = ap (λ (l : List OwnStatement). slice_get l e) (sym self.events_are)
          ∙ slice_get-map own_view self.events.now e ∙ ap (option_map own_view) (slice_get_read self.events.now (length self.events.now) e own refl c.in-Some-get.ensures.lookup.3.0 c.in-Some-get.ensures.lookup.1);
      at = c.in-Some.place;
      begins = subst (λ (text : List ℕ). BeginsEvent text t e c.in-Some.place.start) same stands.start;
      ends = subst (λ (text : List ℕ). EndsEvent text t e c.in-Some.place.«end») same stands.«end»;
      placed = c.in_ok-event_in-in-Some-get.ensures;
    }

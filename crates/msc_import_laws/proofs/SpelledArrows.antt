-- Each event of an import stands where its arrow does.
use Rattle.std.proofs.Common.{◌≡◌, ℕ, length, sym, List, map, Result, Ok, ap, subst, ◌∙◌}
use Rattle.std.specs.List.{flat_map}
use Rattle.std.proofs.lemmas.Simd.{map-map}
use Rattle.msc_chart.specs.Events.{DraftEvent, events_of}
use Rattle.msc_chart.specs.Lists.{Occurs, StandsAt}
use Rattle.msc_chart.proofs.Places.{map-place, place-map}
use Rattle.msc_import.specs.declared.importing.Imported.{Imported}
use Rattle.msc_import.specs.declared.plan.Manner.{Manner}
use Rattle.msc_import.specs.Drafting.{drawn}
use Rattle.msc_import.specs.Importing.{Wanted, chosen, diagram_from, diagram_in, drawn_at, imported, imported_from, scenario_of}
use Rattle.msc_import.specs.declared.spanning.EventSpans.{EventSpans}
use Rattle.msc_import.specs.Places.{event_spans, places, places_in, sites_of, walk_places}
use Rattle.msc_import.specs.Laws.{ends_on}
use Rattle.msc_import.specs.Plans.{Event, plans_of, sides_on}
use Rattle.msc_mermaid.specs.Gives.{◌>>=◌}
use Rattle.msc_mermaid.specs.declared.fault.ImportFault.{ImportFault}
use Rattle.msc_mermaid.specs.declared.statement.Diagram.{Diagram}
use Rattle.msc_place.specs.declared.position.Position.{Position}
use Rattle.msc_scenarios.specs.declared.steps.Message.{Message}
use Rattle.msc_scenarios.specs.declared.steps.Step.TheVariants as steps
use Rattle.msc_scenarios.specs.Steps.{Walk, message_of, unended}
use Rattle.msc_scenarios.specs.Laws.{walked}
use Rattle.msc_import_laws.specs.Outlined.{IsOutlined}
use Rattle.msc_import_laws.specs.Spelled.{SpellsItsArrow}
use Rattle.msc_import_laws.proofs.Drafts.{draft_ends, met as arrow_met, walked_lines}
use Rattle.msc_mermaid.proofs.SpellLemmas.{bound}
use Rattle.msc_import_laws.proofs.EndLists.{End, ends_on_lines}
use Rattle.msc_markdown.specs.Markdowns.{markdown}
use Rattle.msc_import_laws.proofs.Imports.{answered_ok, diagram_found, found_ok}
use Rattle.msc_import_laws.proofs.PlanPlaces.{end_place, places_are}
use Rattle.msc_import_laws.proofs.Texts.{text_outlined}

-- the places of a diagram's scenario are those of the ends
scenario_places : (manner : Manner) (d : Diagram) (out : IsOutlined d) (given : List ℕ) (at : List Position) → places manner d given ≡ Ok at → at ≡ map end_place (ends_on_lines manner.own (walked d given).steps 0 (length d.lines))
unfolding places walk_places
scenario_places manner d out given at e =
    let w : Walk = walked d given in
    let a = bound (plans_of manner w.steps (length w.lines)) _ at e in
    let b = bound (unended w w.ending) _ at a.2 in
    let f : ◌≡◌ {A = Result (List Position) ImportFault} (Ok (flat_map places_in a.0)) (Ok at) = b.2 in
    let same : flat_map places_in a.0 ≡ at = cc in
    sym same ∙ places_are manner w.steps (length w.lines) a.0 a.1 ∙ ap (λ (l : List (List ℕ)). map end_place (ends_on_lines manner.own w.steps 0 (length l))) (walked_lines d out given)

module _ (manner : Manner) (name : List ℕ) (d : Diagram) (out : IsOutlined d) (given : List ℕ) (is : Imported) (e : drawn_at manner name d given ≡ Ok is) where
  made : (drawn manner name d given ≡ Ok is.draft) × (places manner d given ≡ Ok is.places)
  unfolding drawn_at
  made =
      let a = bound (drawn manner name d given) _ is e in
      let sited : List Position → List EventSpans → Result Imported ImportFault = λ at events. Ok (record { draft = a.0; places = at; spans = sites_of d events }) in
      let next : List Position → Result Imported ImportFault = λ at. event_spans manner d given >>= sited at in
      let b = bound (places manner d given) next is a.2 in
      let k = bound (event_spans manner d given) (sited b.0) is b.2 in
      let f : ◌≡◌ {A = Result Imported ImportFault} (Ok (record { draft = a.0; places = b.0; spans = sites_of d k.0 })) (Ok is) = k.2 in
      let draft : a.0 ≡ is.draft = cc in
      let at : b.0 ≡ is.places = cc in
      (a.1 ∙ ap Ok draft, b.1 ∙ ap Ok at)

  -- the message of an end is that of its arrow
  end_message : (line : ℕ) (m : Message) (ev : Event) → Occurs (ends_on manner.own line (steps.Meets m)) ev → ev.message ≡ m
  end_message line m ev o =
      let named = place-map (λ (x : Event). x.message) (ends_on manner.own line (steps.Meets m)) o.0 ev o.1 in
      let plain = subst (λ l. StandsAt l o.0 ev.message) (map-map (λ (x : Event). x.message) (λ s. record { message = m; side = s }) (sides_on manner.own line m)) named in
      sym (map-place (λ s. m) (sides_on manner.own line m) o.0 ev.message plain).2

  spelled : (k : ℕ) (v : DraftEvent) → StandsAt (events_of is.draft) k v → SpellsItsArrow manner d is.places k v
  spelled k v h =
      let x = draft_ends d out given manner name is.draft made.0 k v h in
      let m = arrow_met d out given x.step x.end.message x.met in
      let position : Message → Position = λ (y : Message). record { line = y.line; column = y.column } in
      let ends : List End = ends_on_lines manner.own (walked d given).steps 0 (length d.lines) in
      let there : StandsAt (map end_place ends) k (position x.end.message) = place-map end_place ends k x.end x.stands in
      let same = end_message v.line x.end.message x.event x.its in
      record {
        statement = m.placed;
        arrow = m.arrow;
        lost = m.lost;
        rounds = m.more;
        end = x.event;
        stands = m.stands;
        says = m.says;
        message = same ∙ m.is;
        its = subst (λ (y : Message). Occurs (ends_on manner.own v.line (steps.Meets y)) x.event) (sym same) x.its;
        does = x.does;
        place = subst (λ ps. StandsAt ps k (position (message_of d.lines m.placed m.arrow m.lost m.more))) (sym (scenario_places manner d out given is.places made.1)) (subst (λ q. StandsAt (map end_place ends) k q) (ap position m.is) there);
      }

pub import_spelled : (x : Wanted) (text : List ℕ) (is : Imported) → imported x text ≡ Ok is
    → (d : Diagram) × (diagram_in x.language x.cross x.fence text ≡ Ok d) × ((k : ℕ) (v : DraftEvent) → StandsAt (events_of is.draft) k v → SpellsItsArrow x.manner d is.places k v)
unfolding scenario_of
import_spelled x text is e =
    let h = found_ok (imported_from x) (markdown text) is e in
    let a = answered_ok h.0 (scenario_of x) (diagram_from x.language x.cross x.fence h.0) is h.2 in
    let diagram = diagram_found x.language x.cross x.fence text h.0 a.0 h.1 a.1 in
    let b = bound (chosen x.choices a.0) (drawn_at x.manner x.name a.0) is a.2 in
    (a.0, diagram, spelled x.manner x.name a.0 (text_outlined x.language x.cross x.fence text a.0 diagram) b.0 is b.2)

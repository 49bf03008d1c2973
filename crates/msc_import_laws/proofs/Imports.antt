-- What is imported of a text is a scenario of it; so it is a chart, the text is a run, and all
-- order goes down.
use Rattle.std.proofs.Common.{◌≡◌, ℕ, zero, suc, ◌/◌, ◌<◌, ◌≤◌, sym, arith, inl, inr, List, [], ◌∷◌, ◌++◌, Option, Result, Ok, Err, refl, ap, subst, ◌∙◌}
use Rattle.msc_parser.specs.Grammar.{Tree}
use Rattle.msc_chart.specs.declared.queue.Queues.{Queues}
use Rattle.msc_chart.specs.Charts.{Visual}
use Rattle.msc_chart.specs.Drawings.{chart_events, chart_of}
use Rattle.msc_chart.specs.Events.{DraftEvent, events_of}
use Rattle.msc_chart.specs.Lists.{Occurs, StandsAt}
use Rattle.msc_chart.specs.Orders.{Enforced, IsWired, wired}
use Rattle.msc_chart.proofs.DraftEvents.{joined}
use Rattle.msc_mermaid.specs.declared.fault.ImportFault.{ImportFault}
use Rattle.msc_import.specs.declared.importing.Imported.{Imported}
use Rattle.msc_import.specs.declared.plan.Manner.{Manner}
use Rattle.msc_mermaid.specs.declared.statement.Diagram.{Diagram}
use Rattle.msc_import.specs.declared.drawings.Scenario.{Scenario}
use Rattle.msc_import.specs.declared.whole.Scenarios.{Scenarios}
use Rattle.msc_import.specs.Drafting.{drawn}
use Rattle.msc_import.specs.declared.importing.Language.{Language}
use Rattle.msc_mermaid.specs.declared.statement.Cross.{Cross}
use Rattle.msc_mermaid.specs.Gives.{◌>>=◌}
use Rattle.msc_markdown.specs.Markdowns.{Found, markdown}
use Rattle.msc_import.specs.Importing.{Refusal, Wanted, answered, chosen, diagram_from, diagram_in, drawn_at, found_as, imported, imported_from, scenario_of, told_of}
use Rattle.msc_import.specs.declared.spanning.EventSpans.{EventSpans}
use Rattle.msc_import.specs.Places.{event_spans, places, sites_of}
use Rattle.msc_place.specs.declared.position.Position.{Position}
use Rattle.msc_scenarios.specs.Laws.{walked}
use Rattle.msc_scenarios.specs.Naming.{names_behind}
use Rattle.msc_import.specs.Drawings.{scenario_with, scenarios_on}
use Rattle.msc_import.specs.Whole.{WantedAll, all_of, all_scenarios, imported_all, imported_all_from, wanted_choices}
use Rattle.msc_import_laws.specs.Apart.{IsDrawnDown}
use Rattle.msc_import_laws.specs.Drawn.{heights_in}
use Rattle.msc_import_laws.specs.Ends.{IsEndOfItsArrow}
use Rattle.msc_import_laws.specs.Heights.{IsDownward, IsOnlyOrder, IsWholeRun, ShareLines, height}
use Rattle.msc_import_laws.specs.Imports.{IsScenarioOf, Reading, all_read_as, arrow_at, read_as}
use Rattle.msc_import_laws.proofs.Descent.{enforced_down, visual_down, whole_run}
use Rattle.msc_import_laws.proofs.Drafts.{draft_drawn, draft_events}
use Rattle.msc_mermaid.proofs.SpellLemmas.{bound}
use Rattle.msc_import_laws.proofs.Sorted.{downward}
use Rattle.msc_import_laws.proofs.Texts.{text_outlined}

-- what is answered is answered of a diagram
pub told_ok : {A : Type 0} (lines : List (List ℕ)) (r : Result A ImportFault) (y : A) → told_of lines r ≡ Ok y → r ≡ Ok y
told_ok lines (Ok x) y e = let same : x ≡ y = cc in ap Ok same
told_ok lines (Err f) y e = cc

pub answered_ok : {A : Type 0} (found : Found) (f : Diagram → Result A ImportFault) (r : Result Diagram ImportFault) (y : A) → answered found f r ≡ Ok y → (d : Diagram) × (r ≡ Ok d) × (f d ≡ Ok y)
unfolding answered
answered_ok found f (Ok d) y e = (d, refl, told_ok d.lines (f d) y e)
answered_ok found f (Err g) y e = cc

-- and of what the text holds
pub found_ok : {A : Type 0} (g : Found → Result A Refusal) (r : Result Found ImportFault) (y : A) → found_as g r ≡ Ok y → (x : Found) × (r ≡ Ok x) × (g x ≡ Ok y)
unfolding found_as
found_ok g (Ok x) y e = (x, refl, e)
found_ok g (Err f) y e = cc

pub diagram_found : (language : Language) (cross : Option Cross) (fence : Option ℕ) (text : List ℕ) (x : Found) (d : Diagram) → markdown text ≡ Ok x → diagram_from language cross fence x ≡ Ok d → diagram_in language cross fence text ≡ Ok d
unfolding diagram_in
diagram_found language cross fence text x d is e = ap (λ m. m >>= diagram_from language cross fence) is ∙ e

-- what is drawn with its places is drawn
drawn_with : (manner : Manner) (name : List ℕ) (d : Diagram) (given : List ℕ) (is : Imported) → drawn_at manner name d given ≡ Ok is → drawn manner name d given ≡ Ok is.draft
unfolding drawn_at
drawn_with manner name d given is e =
    let a = bound (drawn manner name d given) _ is e in
    let sited : List Position → List EventSpans → Result Imported ImportFault = λ at events. Ok (record { draft = a.0; places = at; spans = sites_of d events }) in
    let made : List Position → Result Imported ImportFault = λ at. event_spans manner d given >>= sited at in
    let b = bound (places manner d given) made is a.2 in
    let k = bound (event_spans manner d given) (sited b.0) is b.2 in
    let f : ◌≡◌ {A = Result Imported ImportFault} (Ok (record { draft = a.0; places = b.0; spans = sites_of d k.0 })) (Ok is) = k.2 in
    let same : a.0 ≡ is.draft = cc in
    a.1 ∙ ap Ok same

-- an import is a scenario
pub import_scenario : (x : Wanted) (text : List ℕ) (is : Imported) → imported x text ≡ Ok is
    → (d : Diagram) × (given : List ℕ) × (chosen x.choices d ≡ Ok given) × IsScenarioOf (read_as x) x.manner text d given is.draft
unfolding scenario_of
import_scenario x text is e =
    let h = found_ok (imported_from x) (markdown text) is e in
    let a = answered_ok h.0 (scenario_of x) (diagram_from x.language x.cross x.fence h.0) is h.2 in
    let b = bound (chosen x.choices a.0) (drawn_at x.manner x.name a.0) is a.2 in
    (a.0, b.0, b.1, record { name = x.name; diagram = diagram_found x.language x.cross x.fence text h.0 a.0 h.1 a.1; scenario = drawn_with x.manner x.name a.0 b.0 is b.2 })

-- one of all scenarios
with_scenario : (manner : Manner) (name : List ℕ) (d : Diagram) (given : List ℕ) (s : Scenario) → scenario_with manner name d given ≡ Ok s → drawn manner name d s.choices ≡ Ok s.draft
unfolding scenario_with
with_scenario manner name d given s e =
    let a = bound (drawn_at manner name d given) _ s e in
    let choices : given ≡ s.choices = cc in
    let draft : a.0.draft ≡ s.draft = cc in
    subst (λ (g : List ℕ). drawn manner name d g ≡ Ok s.draft) choices (drawn_with manner name d given a.0 a.1 ∙ ap Ok draft)

-- those that were made, and those that follow
each_scenario : (manner : Manner) (name : List ℕ) (d : Diagram) (done : List Scenario) (lists : List (List ℕ)) (all : List Scenario) (s : Scenario)
    → ((t : Scenario) → Occurs done t → drawn manner name d t.choices ≡ Ok t.draft) → scenarios_on manner name d done lists ≡ Ok all → Occurs all s → drawn manner name d s.choices ≡ Ok s.draft
unfolding scenarios_on
each_scenario manner name d done [] all s before e o = let same : done ≡ all = cc in before s (subst (λ l. Occurs l s) (sym same) o)
each_scenario manner name d done (given ∷ lists) all s before e o =
    let a = bound (scenario_with manner name d given) (λ s. scenarios_on manner name d (done ++ s ∷ []) lists) all e in
    let here = with_scenario manner name d given a.0 a.1 in
    each_scenario manner name d (done ++ a.0 ∷ []) lists all s (λ t k. elim (joined done (a.0 ∷ []) t k) [ inl l ↦ before t l | inr r ↦ only a.0 t r here ]) a.2 o
  where
    only : (x t : Scenario) → Occurs (x ∷ []) t → drawn manner name d x.choices ≡ Ok x.draft → drawn manner name d t.choices ≡ Ok t.draft
    only x t (zero, h) k = let same : x ≡ t = cc in subst (λ (y : Scenario). drawn manner name d y.choices ≡ Ok y.draft) same k
    only x t (suc j, h) k = cc

pub all_scenario : (x : WantedAll) (text : List ℕ) (all : Scenarios) (s : Scenario) → imported_all x text ≡ Ok all → Occurs all.list s
    → (d : Diagram) × IsScenarioOf (all_read_as x) x.manner text d s.choices s.draft
unfolding all_of all_scenarios
all_scenario x text all s e o =
    let h = found_ok (imported_all_from x) (markdown text) all e in
    let a = answered_ok h.0 (all_of x) (diagram_from x.language x.cross x.fence h.0) all h.2 in
    let d : Diagram = a.0 in
    let b = bound (all_scenarios x d) _ all a.2 in
    let list : b.0 ≡ all.list = cc in
    let lists = bound (wanted_choices x d) (scenarios_on x.manner x.name d []) b.0 b.1 in
    (d, record { name = x.name; diagram = diagram_found x.language x.cross x.fence text h.0 d h.1 a.1; scenario = each_scenario x.manner x.name d [] lists.0 b.0 s (λ t k. absurd (none t k)) lists.2 (subst (λ l. Occurs l s) (sym list) o) })
  where
    none : (t : Scenario) → Occurs [] t → ⊥
    none t (j, h) = cc

module _ (how : Reading) (manner : Manner) (text : List ℕ) (d : Diagram) (given : List ℕ) (draft : Tree) (is : IsScenarioOf how manner text d given draft) where
  pub scenario_drawn : IsDrawnDown (heights_in manner d given) draft
  scenario_drawn = draft_drawn d (text_outlined how.language how.cross how.fence text d is.diagram) given manner is.name draft is.scenario

  pub scenario_order : (order : List ℕ) × IsOnlyOrder (heights_in manner d given) (chart_events draft) order
  scenario_order = downward (heights_in manner d given) (chart_events draft) scenario_drawn.drawn

  pub scenario_run : (queues : Queues) (order : List ℕ) → IsWired (wired queues (chart_of draft)) → ShareLines (wired queues (chart_of draft)) → IsDownward (heights_in manner d given) (chart_events draft) order → IsWholeRun (wired queues (chart_of draft)) order
  scenario_run queues order connected share down = whole_run (heights_in manner d given) (wired queues (chart_of draft)) connected share scenario_drawn.drawn order down

  quarter : (a b : ℕ) → a < b → (a < b) × (a / 4 ≤ b / 4)
  quarter a b h = (h, omega (arith, h))

  pub scenario_enforced : (queues : Queues) (e f : ℕ) → Enforced (wired queues (chart_of draft)) e f
      → (height (heights_in manner d given) e < height (heights_in manner d given) f) × (arrow_at manner d given e ≤ arrow_at manner d given f)
  scenario_enforced queues e f h = quarter _ _ (enforced_down (heights_in manner d given) (wired queues (chart_of draft)) scenario_drawn.drawn e f h)

  pub scenario_visual : (e f : ℕ) → Visual (chart_events draft) e f
      → (height (heights_in manner d given) e < height (heights_in manner d given) f) × (arrow_at manner d given e ≤ arrow_at manner d given f)
  scenario_visual e f h = quarter _ _ (visual_down (heights_in manner d given) (chart_events draft) scenario_drawn.drawn e f h)

  pub scenario_events : (e : ℕ) (v : DraftEvent) → StandsAt (events_of draft) e v
      → IsEndOfItsArrow manner.own (names_behind [] d.lines) (walked d given).steps v (height (heights_in manner d given) e)
  scenario_events = draft_events d (text_outlined how.language how.cross how.fence text d is.diagram) given manner is.name draft is.scenario

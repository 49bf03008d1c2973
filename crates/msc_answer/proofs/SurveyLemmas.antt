-- What is answered of all scenarios of a diagram.
use Rattle.std.proofs.Common.{◌≡◌, ℕ, Bool, true, false, not, ◌&&◌, List, [], ◌∷◌, get_or, slice_get, Option, Some, Result, Ok, Err, is_ok, inl, inr, map, refl, sym, ap, subst, ◌∙◌}
use Rattle.std.proofs.lemmas.Option.{slice_get-get_or}
use Rattle.msc_import.specs.Drafting.{chart_name}
use Rattle.msc_import.specs.Importing.{answered, diagram_from, found_as, read, seen, told_of}
use Rattle.msc_import.specs.Laws.{ReadingComesFirst}
use Rattle.msc_import.specs.Whole.{WantedAll, all_of, all_scenarios, draws_branches, imported_all, imported_all_from, may_draw, reading_of_all, refusing, wanted_choices}
use Rattle.msc_import.specs.declared.drawings.Scenario.{Scenario as Drawn}
use Rattle.msc_import.specs.declared.whole.Scenarios.{Scenarios}
use Rattle.msc_import_laws.specs.Imports.{ScenariosAreCharts}
use Rattle.msc_markdown.specs.Markdowns.{Found, markdown}
use Rattle.msc_mermaid.specs.Gives.{◌>>=◌}
use Rattle.msc_mermaid.specs.declared.fault.ImportFault.{ImportFault}
use Rattle.msc_mermaid.specs.declared.statement.Diagram.{Diagram}
use Rattle.msc_report.specs.declared.fault.Fault.TheVariants.{Parse, Chart, NotStarted, Memory, Device}
use Rattle.msc_report.specs.Refusals.{of_source, of_writing}
use Rattle.msc_source.specs.declared.fault.SourceFault.{SourceFault}
use Rattle.msc_source.specs.declared.fault.SourceFault.TheVariants as sources
use Rattle.msc_diagram.specs.Judging.{BeginsScenarios as BeginsOf, JudgesScenarios, PassesScenarios, TellsScenarios}
use Rattle.msc_diagram.specs.declared.full.FullDiagram.{FullDiagram}
use Rattle.msc_diagram.specs.declared.judging.DiagramFormat.{DiagramFormat as DiagramFormat}
use Rattle.msc_diagram.specs.Closing.{has_marks}
use Rattle.msc_diagram.specs.declared.check.ScenarioCheck.{ScenarioCheck}
use Rattle.msc_diagram.specs.declared.check.UsedMarks.{UsedMarks}
use Rattle.msc_diagram.specs.declared.judging.DiagramFormat.TheVariants as diagrams
use Rattle.msc_diagram.specs.declared.judging.Judged.{Judged}
use Rattle.msc_diagram.specs.declared.scenario.Scenario.{Scenario}
use Rattle.msc_print.specs.declared.page.WriteFault.{WriteFault}
use Rattle.msc_print.specs.declared.page.WriteFault.TheVariants as writing
use Rattle.msc_answer.proofs.Answered.{answers_with_so}
use Rattle.msc_print.proofs.PrintLemmas.{Appends-none as nothing_more}
use Rattle.msc_answer.specs.Answering.{AnswersWith}
use Rattle.msc_answer.specs.Charting.{with_chart, AreCharts}
use Rattle.msc_answer.specs.Ending.{ended_by}
use Rattle.msc_answer.specs.declared.tasks.CheckArgs.{CheckArgs}
use Rattle.msc_answer.specs.Importing.{IsChartOrFault}
use Rattle.msc_answer.specs.Linked.{AreLinkedIn}
use Rattle.msc_chart.specs.declared.queue.Queues.{Queues}
use Rattle.msc_chart.specs.Architectures.{usual_of}
use Rattle.msc_answer.specs.ArrowMarks.{ReadsArrowMarks}
use Rattle.msc_answer.specs.Scenarios.{AreUsed, BeginsAll, IsCharted, IsDiagramOf, IsFirst, IsFormatOf, IsImportOfAll, IsLinkedArgs, OfScenarios, PrintsCounted, RefusesScenarios, TellsFormat, check_of, checked_under, surveyed_of, top_in, wanted_of, with_fence}
use Rattle.msc_answer.specs.Scenarios as of_words
use Rattle.msc_answer.specs.ShownDiagrams.{IsFullDiagram}
use Rattle.msc_answer.specs.declared.ending.Refusal.{Refusal}
use Rattle.msc_answer.specs.declared.ending.Refusal.TheVariants as refusals
use Rattle.msc_answer.specs.declared.scenarios.Told.{Told}
use Rattle.msc_answer.specs.declared.tasks.Format.TheVariants as formats
use Rattle.msc_answer.specs.declared.tasks.ScenarioArgs.{ScenarioArgs}
use Rattle.msc_import_laws.proofs.Imports.{told_ok}

-- a draft that is no chart is no scenario that is told
pub no_scenario : (file : List ℕ) (s : Drawn) (fault : SourceFault) → IsChartOrFault s.draft (Err fault)
    → IsCharted file s (Err (refusals.Fault (of_source fault)))
no_scenario file s (sources.Parse f) said = absurd said
no_scenario file s (sources.Chart f) said = said
no_scenario file s sources.Memory said = tt

-- each scenario of a text is a chart
pub all_charts : ScenariosAreCharts → (x : ScenarioArgs) (text : List ℕ) (all : Scenarios) → imported_all (wanted_of x) text ≡ Ok all → AreCharts all.list
all_charts charts x text all is i d within =
    charts (wanted_of x) text all (get_or all.list i d) is (i, slice_get-get_or all.list i d within)

-- these scenarios of a diagram, with what is told of all of them
abbrev named : WantedAll → Diagram → List Drawn → Scenarios
named x d list = record { name = chart_name x.name; list = list; drawn = draws_branches x d }

-- whether parallel branches are drawn one below the other is known of the scenarios
module _ (x : WantedAll) where
  drawn_of : (d : Diagram) (all : Scenarios) → all_of x d ≡ Ok all → all.drawn ≡ (may_draw x.manner.par && not (is_ok (all_of (refusing x) d)))
  unfolding all_of
  drawn_of d all e = by (all_scenarios x d) refl e
    where
      with_name : (r : Result (List Drawn) ImportFault) (f : List Drawn → Scenarios) → Result Scenarios ImportFault
      with_name r f = r >>= (λ list. Ok (f list))

      ok_so : (r : Result (List Drawn) ImportFault) (f : List Drawn → Scenarios) → is_ok (with_name r f) ≡ is_ok r
      ok_so (Ok list) f = refl
      ok_so (Err fault) f = refl

      by : (r : Result (List Drawn) ImportFault) → all_scenarios x d ≡ r → with_name r (named x d) ≡ Ok all
          → all.drawn ≡ (may_draw x.manner.par && not (is_ok (with_name (all_scenarios (refusing x) d) (named (refusing x) d))))
      by (Ok list) is k =
          let same : draws_branches x d ≡ all.drawn = cc in
          sym same ∙ ap (λ b. may_draw x.manner.par && not b) (sym (ok_so (all_scenarios (refusing x) d) (named (refusing x) d)))
      by (Err fault) is k = cc

  drawn_in : (f : Found) (all : Scenarios) (r : Result Diagram ImportFault) → answered f (all_of x) r ≡ Ok all
      → all.drawn ≡ (may_draw x.manner.par && not (is_ok (answered f (all_of (refusing x)) r)))
  unfolding answered
  drawn_in f all (Ok d) e =
      drawn_of d all (told_ok d.lines (all_of x d) all e) ∙ ap (λ b. may_draw x.manner.par && not b) (sym (told_so d.lines (all_of (refusing x) d)))
    where
      told_so : (lines : List (List ℕ)) (r : Result Scenarios ImportFault) → is_ok (told_of lines r) ≡ is_ok r
      told_so lines (Ok y) = refl
      told_so lines (Err fault) = refl
  drawn_in f all (Err fault) e = cc

  drawn_as : (all : Scenarios) (r : Result Found ImportFault) → found_as (imported_all_from x) r ≡ Ok all
      → all.drawn ≡ (may_draw x.manner.par && not (is_ok (found_as (imported_all_from (refusing x)) r)))
  unfolding found_as
  drawn_as all (Ok f) e = drawn_in f all (diagram_from x.language x.cross x.fence f) e
  drawn_as all (Err fault) e = cc

pub drawn_so : (x : ScenarioArgs) (text : List ℕ) (all : Scenarios) → imported_all (wanted_of x) text ≡ Ok all → all.drawn ≡ of_words.draws_branches x text
drawn_so x text all is = drawn_as (wanted_of x) all (markdown text) is

module _ {W A : Type 0} (contents : W → Option (List ℕ)) (is_told : List ℕ → Told → Type 0)
    (prints : CheckArgs → Told → List Scenario → A → List ℕ → Type 0) (begins : CheckArgs → Told → List Scenario → List ℕ → Type 0) where
  -- what was told of the scenarios of a text, under the queues that the rules give, was told of the text
  pub told_of_text : ScenariosAreCharts → (x : ScenarioArgs) (file text : List ℕ) (all : Scenarios) → imported_all (wanted_of x) text ≡ Ok all
      → (queues : Queues) → AreLinkedIn (usual_of x.check_args.queues) x.links text all.list queues
      → (t : Told) → is_told all.name t → (answer : Result A Refusal) (old new : W)
      → AnswersWith contents (prints (checked_under queues x.check_args) t (map (with_chart file) all.list))
      (begins (checked_under queues x.check_args) t (map (with_chart file) all.list)) (λ refusal. ⊥) answer old new
      → AnswersWith contents (λ a printed. OfScenarios x file text (λ c name ss. (t : Told) × is_told name t × prints c t ss a printed))
      (λ printed. OfScenarios x file text (λ c name ss. (t : Told) × is_told name t × begins c t ss printed)) (RefusesScenarios x text) answer old new
  told_of_text charts x file text all is queues linked t its answer old new told =
      let are = all_charts charts x text all is in
      let c = checked_under queues x.check_args in
      answers_with_so contents (prints c t (map (with_chart file) all.list))
      (λ a printed. OfScenarios x file text (λ c name ss. (t : Told) × is_told name t × prints c t ss a printed))
      (begins c t (map (with_chart file) all.list))
      (λ printed. OfScenarios x file text (λ c name ss. (t : Told) × is_told name t × begins c t ss printed))
      (λ refusal. ⊥) (RefusesScenarios x text)
      (λ a printed says. (all, is, are, queues, linked, (t, its, says)))
      (λ printed begun. (all, is, are, queues, linked, (t, its, begun)))
      (λ refusal never. absurd never) answer old new told

module _ {W A : Type 0} (contents : W → Option (List ℕ)) (is_told : List ℕ → Told → Type 0)
    (prints : Bool → CheckArgs → Told → List Scenario → A → List ℕ → Type 0) (begins : Bool → CheckArgs → Told → List Scenario → List ℕ → Type 0) where
  -- the same of what was told by these words, which are those of the text under these queues
  pub told_by : ScenariosAreCharts → (x : ScenarioArgs) (file text : List ℕ) (all : Scenarios) → imported_all (wanted_of x) text ≡ Ok all
      → (queues : Queues) → AreLinkedIn (usual_of x.check_args.queues) x.links text all.list queues
      → (quiet : Bool) → quiet ≡ x.quiet → (k : CheckArgs) → k ≡ checked_under queues x.check_args
      → (ss : List Scenario) → ss ≡ map (with_chart file) all.list → (t : Told) (answer : Result A Refusal) (old new : W)
      → AnswersWith contents (prints quiet k t ss) (begins quiet k t ss) (λ refusal. ⊥) answer old new → is_told all.name t
      → AnswersWith contents (λ a printed. OfScenarios x file text (λ c name ss. (t : Told) × is_told name t × prints x.quiet c t ss a printed))
      (λ printed. OfScenarios x file text (λ c name ss. (t : Told) × is_told name t × begins x.quiet c t ss printed)) (RefusesScenarios x text) answer old new
  told_by charts x file text all is queues linked quiet same k under ss its t answer old new told known =
      told_of_text contents is_told (prints x.quiet) (begins x.quiet) charts x file text all is queues linked t known answer old new
      (subst (λ (b : Bool). AnswersWith contents (prints b (checked_under queues x.check_args) t (map (with_chart file) all.list)) (begins b (checked_under queues x.check_args) t (map (with_chart file) all.list)) (λ refusal. ⊥) answer old new) same
      (subst (λ (c : CheckArgs). AnswersWith contents (prints quiet c t (map (with_chart file) all.list)) (begins quiet c t (map (with_chart file) all.list)) (λ refusal. ⊥) answer old new) under
      (subst (λ (l : List Scenario). AnswersWith contents (prints quiet k t l) (begins quiet k t l) (λ refusal. ⊥) answer old new) its told)))

module _ {W A : Type 0} (contents : W → Option (List ℕ)) (prints : A → List ℕ → Type 0) (begins : List ℕ → Type 0) (x : ScenarioArgs) (text : List ℕ) (now : W) where
  -- where there are no scenarios, nothing is written
  pub none_drawn : (r : Refusal) → IsImportOfAll x text (Err r)
      → AnswersWith contents prints begins (RefusesScenarios x text) (Err r) now now
  none_drawn (refusals.Fault (Parse f)) said = absurd said
  none_drawn (refusals.Fault (Chart f)) said = absurd said
  none_drawn (refusals.Fault (NotStarted i)) said = absurd said
  none_drawn (refusals.Fault Memory) said = inl refl
  none_drawn (refusals.Fault Device) said = absurd said
  none_drawn (refusals.Pair f) said = absurd said
  none_drawn (refusals.Mark f) said = absurd said
  none_drawn (refusals.ArrowMark f) said = absurd said
  none_drawn (refusals.Instance name) said = absurd said
  none_drawn (refusals.Link fault) said = absurd said
  none_drawn (refusals.Rounds f) said = absurd said
  none_drawn (refusals.Import e) said = (said, refl)

  -- and so it is where the rules give no queues
  pub none_linked : (all : Scenarios) → imported_all (wanted_of x) text ≡ Ok all → (r : Refusal) → IsLinkedArgs x text all.list (Err r)
      → AnswersWith contents prints begins (RefusesScenarios x text) (Err r) now now
  none_linked all is (refusals.Fault (Parse f)) said = absurd said
  none_linked all is (refusals.Fault (Chart f)) said = absurd said
  none_linked all is (refusals.Fault (NotStarted i)) said = absurd said
  none_linked all is (refusals.Fault Memory) said = inl refl
  none_linked all is (refusals.Fault Device) said = absurd said
  none_linked all is (refusals.Pair f) said = absurd said
  none_linked all is (refusals.Mark f) said = absurd said
  none_linked all is (refusals.ArrowMark f) said = absurd said
  none_linked all is (refusals.Instance name) said = absurd said
  none_linked all is (refusals.Link fault) said = ((all, is, said), refl)
  none_linked all is (refusals.Rounds f) said = absurd said
  none_linked all is (refusals.Import e) said = absurd said

  -- the same of a text that is this one
  pub none_linked_in : (all : Scenarios) → imported_all (wanted_of x) text ≡ Ok all → (other : List ℕ) → other ≡ text
      → (r : Refusal) → IsLinkedArgs x other all.list (Err r) → AnswersWith contents prints begins (RefusesScenarios x text) (Err r) now now
  none_linked_in all is other same r said = none_linked all is r (subst (λ (t : List ℕ). IsLinkedArgs x t all.list (Err r)) same said)

  -- and where a mark is faulty
  pub none_marked : (all : Scenarios) → imported_all (wanted_of x) text ≡ Ok all → (queues : Queues) → AreLinkedIn (usual_of x.check_args.queues) x.links text all.list queues
      → (d : Diagram) → read (reading_of_all (wanted_of x)) text ≡ Ok d → (r : Refusal) → ReadsArrowMarks x.check_args.accept text d (Err r)
      → AnswersWith contents prints begins (RefusesScenarios x text) (Err r) now now
  none_marked all is queues linked d its (refusals.Fault (Parse f)) said = absurd said
  none_marked all is queues linked d its (refusals.Fault (Chart f)) said = absurd said
  none_marked all is queues linked d its (refusals.Fault (NotStarted i)) said = absurd said
  none_marked all is queues linked d its (refusals.Fault Memory) said = inl refl
  none_marked all is queues linked d its (refusals.Fault Device) said = absurd said
  none_marked all is queues linked d its (refusals.Pair f) said = absurd said
  none_marked all is queues linked d its (refusals.Mark f) said = absurd said
  none_marked all is queues linked d its (refusals.ArrowMark r) said = ((all, is, queues, linked, (said.0, d, its, said.1)), refl)
  none_marked all is queues linked d its (refusals.Instance name) said = absurd said
  none_marked all is queues linked d its (refusals.Link fault) said = absurd said
  none_marked all is queues linked d its (refusals.Rounds f) said = absurd said
  none_marked all is queues linked d its (refusals.Import e) said = absurd said

-- findings as people read them are in a form that is asked for, by the first of the scenarios
pub full_is : (c : CheckArgs) (t : Told) (ss : List Scenario) (s : Scenario) → IsFirst ss s → c.format ≡ formats.Full → (full : FullDiagram)
    → IsFullDiagram t.diagram s.spans.shown s.chart c.queues c.colours t.following full → IsFormatOf c t ss (diagrams.Full full)
full_is c t [] s never is full shown = absurd never
full_is c t (first ∷ ss) s same is full shown =
    rw is (subst (λ (x : Scenario). IsFullDiagram t.diagram x.spans.shown x.chart c.queues c.colours t.following full) (sym same) shown)

-- the first of scenarios
pub first_is : (ss : List Scenario) (s : Scenario) → slice_get ss 0 ≡ Some s → IsFirst ss s
first_is [] s is = absurd cc
first_is (first ∷ ss) s is = cc

module _ {W : Type 0} (contents : W → Option (List ℕ)) (c : CheckArgs) (t : Told) (marks : Option UsedMarks) (ss : List Scenario) where
  -- what is told by the status alone
  pub passes_so : AreUsed c t marks → (quiet passed : Bool) (now : W) → quiet ≡ true → PassesScenarios ss (check_of c marks) passed
      → AnswersWith contents (PrintsCounted quiet c t ss) (BeginsAll quiet c t ss) (λ refusal. ⊥) (Ok (record { status = ended_by passed; listed = 0; accepted = 0; marked = false })) now now
  passes_so used quiet passed now is says = rw is ([], (marks, used, (passed, refl, says, refl)), nothing_more _)

  -- what was told in a form, below the first lines of that form
  pub told_in : (k : ScenarioCheck) → k ≡ check_of c marks → (format : DiagramFormat) → IsFormatOf c t ss format → (top : List ℕ) → top ≡ top_in format c t ss → (result : Result Judged WriteFault) (old new : W)
      → TellsScenarios contents (JudgesScenarios top ss k format) (BeginsOf top ss k format) result old new
      → TellsFormat contents c t marks ss result old new
  told_in k same format its top top_is result old new told =
      inl (
        format,
        its,
        subst (λ (q : ScenarioCheck). TellsScenarios contents (JudgesScenarios (top_in format c t ss) ss q format) (BeginsOf (top_in format c t ss) ss q format) result old new) same
            (subst (λ (p : List ℕ). TellsScenarios contents (JudgesScenarios p ss k format) (BeginsOf p ss k format) result old new) top_is told),
      )

  module _ (used : AreUsed c t marks) (quiet : Bool) (is : quiet ≡ false) where
    -- what was written to its end
    pub told_all : (judged : Judged) (old new : W) → TellsFormat contents c t marks ss (Ok judged) old new
        → AnswersWith contents (PrintsCounted quiet c t ss) (BeginsAll quiet c t ss) (λ refusal. ⊥) (Ok (surveyed_of judged (has_marks marks))) old new
    told_all judged old new (inl (format, its, (printed, says, wrote))) = rw is (printed, (marks, used, (format, its, judged, refl, says)), wrote)
    told_all judged old new (inr (never, same)) = absurd cc

    -- what was not
    pub not_told : (f : WriteFault) (old new : W) → TellsFormat contents c t marks ss (Err f) old new
        → AnswersWith contents (PrintsCounted quiet c t ss) (BeginsAll quiet c t ss) (λ refusal. ⊥) (Err (refusals.Fault (of_writing f))) old new
    not_told writing.Memory old new (inl (format, its, inl same)) = inl same
    not_told writing.Memory old new (inl (format, its, inr (printed, says, begun))) = inr (printed, rw is (marks, used, format, its, says), begun)
    not_told writing.Memory old new (inr (memory, same)) = inl same
    not_told writing.Device old new told = tt

-- a text whose diagram is refused has no scenarios
pub none_read : ReadingComesFirst → (x : ScenarioArgs) (text : List ℕ) (r : Refusal) → IsDiagramOf x text (Err r) → IsImportOfAll x text (Err r)
none_read law x text (refusals.Fault Memory) said = tt
none_read law x text (refusals.Fault (Chart f)) said = absurd said
none_read law x text (refusals.Fault Device) said = absurd said
none_read law x text (refusals.Fault (Parse f)) said = absurd said
none_read law x text (refusals.Fault (NotStarted i)) said = absurd said
none_read law x text (refusals.Import e) said = law.refused (wanted_of x) text (seen e) said
none_read law x text (refusals.Pair f) said = absurd said
none_read law x text (refusals.Mark f) said = absurd said
none_read law x text (refusals.ArrowMark f) said = absurd said
none_read law x text (refusals.Instance name) said = absurd said
none_read law x text (refusals.Link fault) said = absurd said
none_read law x text (refusals.Rounds f) said = absurd said

-- scenarios do not depend on the number of their diagram
pub any_fence : (fence : Option ℕ) (x : ScenarioArgs) (d : Diagram) → all_of (wanted_of x) d ≡ all_of (wanted_of (with_fence fence x)) d
unfolding all_of all_scenarios wanted_choices
any_fence fence x d = refl

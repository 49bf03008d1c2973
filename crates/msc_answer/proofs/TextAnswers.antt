-- What was answered of a text with its chart was answered of the text.
use Rattle.std.proofs.Common.{◌≡◌, ◌≢◌, ℕ, List, Option, Some, None, Result, Ok, Err, inl, refl, subst, sym, ◌∙◌}
use Rattle.msc_import.specs.Importing.{imported}
use Rattle.msc_import.specs.declared.importing.Refused.{Refused}
use Rattle.msc_chart.specs.declared.fault.ChartFault.{ChartFault}
use Rattle.msc_parser.specs.Grammar.{Tree}
use Rattle.msc_parser.specs.declared.fault.ParseFault.{ParseFault}
use Rattle.msc_print.specs.declared.page.WriteFault.{WriteFault}
use Rattle.msc_print.specs.declared.page.WriteFault.TheVariants as writing
use Rattle.msc_report.specs.Refusals.{of_source, of_writing}
use Rattle.msc_report.specs.declared.fault.Fault.TheVariants.{Parse, Chart, NotStarted, Memory, Device}
use Rattle.msc_source.specs.Reading as reading
use Rattle.msc_source.specs.Texts.{SourceText}
use Rattle.msc_source.specs.declared.fault.SourceFault.{SourceFault}
use Rattle.msc_source.specs.declared.fault.SourceFault.TheVariants as sources
use Rattle.msc_source.specs.declared.language.Language.TheVariants.{MscPr}
use Rattle.msc_answer.proofs.Answered.{answers_so}
use Rattle.msc_answer.specs.Answering.{Answers, Does, RefusesLinked}
use Rattle.msc_answer.specs.Charted.{of_diagram, of_text, ChartedText}
use Rattle.msc_answer.specs.Drafted.{of_chart, of_scenario, IsDrawnBy, PrintsBy, RefusesBy}
use Rattle.msc_answer.specs.Importing.{wanted_of, IsChosenDiagram, IsNotImported}
use Rattle.msc_answer.specs.declared.ending.Refusal.{Refusal}
use Rattle.msc_answer.specs.declared.ending.Refusal.TheVariants as refusals
use Rattle.msc_answer.specs.declared.ending.Status.{Status}
use Rattle.msc_answer.specs.declared.importing.ImportedDiagram.{ImportedDiagram}
use Rattle.msc_answer.specs.declared.tasks.ChartCommand.{ChartCommand}
use Rattle.msc_answer.specs.declared.tasks.ChosenArgs.{ChosenArgs}
use Rattle.msc_answer.specs.declared.tasks.LinkWords.{LinkWords}
use Rattle.msc_answer.specs.declared.tasks.Task.{Task}
use Rattle.msc_answer.specs.declared.tasks.Task.TheVariants as tasks
use Rattle.msc_answer.specs.declared.tasks.TextArgs.{TextArgs}

-- a text with the chart that it draws is read so
pub drawn_text : (text : List ℕ) (source : SourceText) (is : reading.IsReading MscPr text (Ok source)) (s : ChartedText)
    → s ≡ of_text source.text source.chart → IsDrawnBy None text is.2.draft s
drawn_text text source is s same =
    (is.2.has, is.2.faultless, same ∙ (rw (is.1, is.2.chart) refl))

-- and so is a diagram with its import
pub drawn_diagram : (x : ChosenArgs) (text : List ℕ) (drawing : ImportedDiagram) → IsChosenDiagram x text drawing → (s : ChartedText)
    → s ≡ of_diagram text drawing → IsDrawnBy (Some x) text drawing.imported.draft s
drawn_diagram x text drawing chosen s same = (drawing, chosen, refl, same)

module _ (ask : ChartCommand) (words : LinkWords) (s : ChartedText) where
  -- a chart is not refused as a text that has none
  pub no_parse_of : (f : ParseFault) → RefusesLinked ask words s (refusals.Fault (Parse f)) → ⊥
  no_parse_of f fails = fails.2

  pub no_chart_of : (f : ChartFault) → RefusesLinked ask words s (refusals.Fault (Chart f)) → ⊥
  no_chart_of f fails = fails.2

  pub no_import_of : (e : Refused) → RefusesLinked ask words s (refusals.Import e) → ⊥
  no_import_of e fails = fails.2

module _ {W : Type 0} (contents : W → Option (List ℕ)) (text : List ℕ)
    (prints : Tree → ChartedText → Status → List ℕ → Type 0) (refuses : ChartedText → Refusal → Type 0) where
  -- a text without a draft is refused
  pub undrafted : (f : SourceFault) (now : W) → reading.RefusesDraft MscPr text f
      → Answers contents (PrintsBy None text prints) (RefusesBy None text refuses) (Err (refusals.Fault (of_source f))) now now
  undrafted (sources.Parse f) now has = (has, refl)
  undrafted (sources.Chart f) now never = absurd never
  undrafted sources.Memory now said = inl refl

  -- and so is one without a chart
  pub uncharted : (f : SourceFault) (now : W) → reading.Refuses MscPr text f
      → Answers contents (PrintsBy None text prints) (RefusesBy None text refuses) (Err (refusals.Fault (of_source f))) now now
  uncharted (sources.Parse f) now has = (has, refl)
  uncharted (sources.Chart f) now has = (has, refl)
  uncharted sources.Memory now said = inl refl

  module _ (draft : Tree) (s : ChartedText) where
    module _ (of_text : IsDrawnBy None text draft s) (no_parse : (f : ParseFault) → refuses s (refusals.Fault (Parse f)) → ⊥)
        (no_chart : (f : ChartFault) → refuses s (refusals.Fault (Chart f)) → ⊥) where
      -- what is refused of a chart is refused of its text
      text_refused : (r : Refusal) → refuses s r → RefusesBy None text refuses r
      text_refused (refusals.Fault (Parse f)) fails = absurd (no_parse f fails)
      text_refused (refusals.Fault (Chart f)) fails = absurd (no_chart f fails)
      text_refused (refusals.Fault (NotStarted i)) fails = (draft, s, of_text, fails)
      text_refused (refusals.Fault Memory) fails = (draft, s, of_text, fails)
      text_refused (refusals.Fault Device) fails = (draft, s, of_text, fails)
      text_refused (refusals.Pair f) fails = (draft, s, of_text, fails)
      text_refused (refusals.Mark f) fails = (draft, s, of_text, fails)
      text_refused (refusals.ArrowMark f) fails = (draft, s, of_text, fails)
      text_refused (refusals.Instance name) fails = (draft, s, of_text, fails)
      text_refused (refusals.Link fault) fails = (draft, s, of_text, fails)
      text_refused (refusals.Rounds f) fails = (draft, s, of_text, fails)
      text_refused (refusals.Import e) fails = (draft, s, of_text, fails)

      -- and what was answered of it was answered of its text
      pub text_answered : (answer : Result Status Refusal) (old new : W) → Answers contents (prints draft s) (refuses s) answer old new
          → Answers contents (PrintsBy None text prints) (RefusesBy None text refuses) answer old new
      text_answered answer old new said =
          answers_so contents (prints draft s) (PrintsBy None text prints) (refuses s) (RefusesBy None text refuses)
          (λ status printed says. (draft, s, of_text, says)) text_refused answer old new said

    module _ (x : ChosenArgs) (of_diagram : IsDrawnBy (Some x) text draft s) (no_import : (e : Refused) → refuses s (refusals.Import e) → ⊥) where
      -- the same of a diagram
      diagram_refused : (r : Refusal) → refuses s r → RefusesBy (Some x) text refuses r
      diagram_refused (refusals.Fault (Parse f)) fails = (draft, s, of_diagram, fails)
      diagram_refused (refusals.Fault (Chart f)) fails = (draft, s, of_diagram, fails)
      diagram_refused (refusals.Fault (NotStarted i)) fails = (draft, s, of_diagram, fails)
      diagram_refused (refusals.Fault Memory) fails = (draft, s, of_diagram, fails)
      diagram_refused (refusals.Fault Device) fails = (draft, s, of_diagram, fails)
      diagram_refused (refusals.Pair f) fails = (draft, s, of_diagram, fails)
      diagram_refused (refusals.Mark f) fails = (draft, s, of_diagram, fails)
      diagram_refused (refusals.ArrowMark f) fails = (draft, s, of_diagram, fails)
      diagram_refused (refusals.Instance name) fails = (draft, s, of_diagram, fails)
      diagram_refused (refusals.Link fault) fails = (draft, s, of_diagram, fails)
      diagram_refused (refusals.Rounds f) fails = (draft, s, of_diagram, fails)
      diagram_refused (refusals.Import e) fails = absurd (no_import e fails)

      pub diagram_answered : (answer : Result Status Refusal) (old new : W) → Answers contents (prints draft s) (refuses s) answer old new
          → Answers contents (PrintsBy (Some x) text prints) (RefusesBy (Some x) text refuses) answer old new
      diagram_answered answer old new said =
          answers_so contents (prints draft s) (PrintsBy (Some x) text prints) (refuses s) (RefusesBy (Some x) text refuses)
          (λ status printed says. (draft, s, of_diagram, says)) diagram_refused answer old new said

  -- a diagram of which nothing is imported is refused
  pub unimported : (x : ChosenArgs) (r : Refusal) (now : W) → IsNotImported (imported (wanted_of x) text) r
      → Answers contents (PrintsBy (Some x) text prints) (RefusesBy (Some x) text refuses) (Err r) now now
  unimported x (refusals.Import e) now said = (said, refl)
  unimported x (refusals.Fault Memory) now said = inl refl
  unimported x (refusals.Fault Device) now said = absurd said
  unimported x (refusals.Fault (Parse f)) now said = absurd said
  unimported x (refusals.Fault (Chart f)) now said = absurd said
  unimported x (refusals.Fault (NotStarted i)) now said = absurd said
  unimported x (refusals.Pair f) now said = absurd said
  unimported x (refusals.Mark f) now said = absurd said
  unimported x (refusals.ArrowMark f) now said = absurd said
  unimported x (refusals.Instance name) now said = absurd said
  unimported x (refusals.Link fault) now said = absurd said
  unimported x (refusals.Rounds f) now said = absurd said

module _ {W : Type 0} (contents : W → Option (List ℕ)) (file text : List ℕ) where
  -- what was done for a text that draws its chart was done for the words, if they name no diagram
  pub by_text : (task : TextArgs → Task) (x : TextArgs) → x.diagram ≡ None → (answer : Result Status Refusal) (old new : W)
      → Does contents (task (of_chart x.links)) file text answer old new → Does contents (task x) file text answer old new
  by_text task x none answer old new done =
      let same : x ≡ of_chart x.links = subst (λ (d : Option ChosenArgs). x ≡ record { diagram = d; links = x.links }) none refl in
      subst (λ (y : TextArgs). Does contents (task y) file text answer old new) (sym same) done

  -- and for a diagram, if they name one
  pub by_diagram : (task : TextArgs → Task) (x : TextArgs) (chosen : ChosenArgs) → x.diagram ≡ Some chosen → (answer : Result Status Refusal) (old new : W)
      → Does contents (task (of_scenario chosen x.links)) file text answer old new → Does contents (task x) file text answer old new
  by_diagram task x chosen some answer old new done =
      let same : x ≡ of_scenario chosen x.links = subst (λ (d : Option ChosenArgs). x ≡ record { diagram = d; links = x.links }) some refl in
      subst (λ (y : TextArgs). Does contents (task y) file text answer old new) (sym same) done

  -- a text without a draft is not read
  pub no_draft : (f : SourceFault) (now : W) → reading.RefusesDraft MscPr text f
      → Does contents (tasks.Read None) file text (Err (refusals.Fault (of_source f))) now now
  no_draft (sources.Parse f) now has = (has, refl)
  no_draft (sources.Chart f) now never = absurd never
  no_draft sources.Memory now said = inl refl

  -- a draft that was not written to its end is answered so
  pub not_written : (f : WriteFault) (old new : W) → (f ≢ writing.Device → new ≡ old)
      → Does contents (tasks.Read None) file text (Err (refusals.Fault (of_writing f))) old new
  not_written writing.Memory old new same = inl (same (λ e. cc))
  not_written writing.Device old new same = tt

  -- nor is a diagram of which nothing is imported
  pub no_import : (x : ChosenArgs) (r : Refusal) (now : W) → IsNotImported (imported (wanted_of x) text) r
      → Does contents (tasks.Read (Some x)) file text (Err r) now now
  no_import x (refusals.Import e) now said = (said, refl)
  no_import x (refusals.Fault Memory) now said = inl refl
  no_import x (refusals.Fault Device) now said = absurd said
  no_import x (refusals.Fault (Parse f)) now said = absurd said
  no_import x (refusals.Fault (Chart f)) now said = absurd said
  no_import x (refusals.Fault (NotStarted i)) now said = absurd said
  no_import x (refusals.Pair f) now said = absurd said
  no_import x (refusals.Mark f) now said = absurd said
  no_import x (refusals.ArrowMark f) now said = absurd said
  no_import x (refusals.Instance name) now said = absurd said
  no_import x (refusals.Link fault) now said = absurd said
  no_import x (refusals.Rounds f) now said = absurd said

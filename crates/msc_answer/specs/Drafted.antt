-- As what a text is read: as the draft of its chart, or of the scenario of a diagram that is chosen.
use Rattle.std.specs.Prelude.{◌≡◌, ℕ, List, Option, None, Some}
use Rattle.msc_chart.specs.Drawings.{chart_of}
use Rattle.msc_chart.specs.Faults.{IsFaultless, IsFirstFault}
use Rattle.msc_parser.specs.Grammar.{Tree}
use Rattle.msc_parser.specs.Parsing.{HasDraft, HasParseFault}
use Rattle.msc_report.specs.declared.fault.Fault.TheVariants.{Parse, Chart}
use Rattle.msc_answer.specs.Charted.{of_diagram, of_text, ChartedText}
use Rattle.msc_answer.specs.Importing.{IsChosenDiagram, RefusesImport}
use Rattle.msc_answer.specs.declared.ending.Refusal.{Refusal}
use Rattle.msc_answer.specs.declared.ending.Refusal.TheVariants as refusals
use Rattle.msc_answer.specs.declared.importing.ImportedDiagram.{ImportedDiagram}
use Rattle.msc_answer.specs.declared.ending.Status.{Status}
use Rattle.msc_answer.specs.declared.tasks.ChosenArgs.{ChosenArgs}
use Rattle.msc_answer.specs.declared.tasks.LinkWords.{LinkWords}
use Rattle.msc_answer.specs.declared.tasks.TextArgs.{TextArgs}

-- the words for a text that draws its chart, and for one that is a diagram
abbrev pub of_chart : LinkWords → TextArgs
of_chart links = record { diagram = None; links = links }

abbrev pub of_scenario : ChosenArgs → LinkWords → TextArgs
of_scenario x links = record { diagram = Some x; links = links }

-- a text is read as this draft
abbrev pub IsReadBy : Option ChosenArgs → List ℕ → Tree → Type 0
IsReadBy None text draft = HasDraft text draft
IsReadBy (Some x) text draft = (drawing : ImportedDiagram) × IsChosenDiagram x text drawing × (draft ≡ drawing.imported.draft)

-- why a text is read as no draft
abbrev pub IsUnreadBy : Option ChosenArgs → List ℕ → Refusal → Type 0
IsUnreadBy None text (refusals.Fault (Parse f)) = HasParseFault text f
IsUnreadBy None text refusal = ⊥
IsUnreadBy (Some x) text refusal = RefusesImport x text refusal

-- a text is read as this draft, and this is the text with its chart
abbrev pub IsDrawnBy : Option ChosenArgs → List ℕ → Tree → ChartedText → Type 0
IsDrawnBy None text draft s = HasDraft text draft × IsFaultless draft × (s ≡ of_text text (chart_of draft))
IsDrawnBy (Some x) text draft s =
    (drawing : ImportedDiagram) × IsChosenDiagram x text drawing × (draft ≡ drawing.imported.draft) × (s ≡ of_diagram text drawing)

-- this is printed of the draft of a text, and of the text with its chart
abbrev pub PrintsBy : Option ChosenArgs → List ℕ → (Tree → ChartedText → Status → List ℕ → Type 0) → Status → List ℕ → Type 0
PrintsBy chosen text prints status printed =
    (draft : Tree) × (s : ChartedText) × IsDrawnBy chosen text draft s × prints draft s status printed

-- A text with a chart of which this is said is refused so; or it has no draft, or its draft is no
-- chart; or nothing is imported of it.
abbrev pub RefusesBy : Option ChosenArgs → List ℕ → (ChartedText → Refusal → Type 0) → Refusal → Type 0
RefusesBy None text refuses (refusals.Fault (Parse f)) = HasParseFault text f
RefusesBy None text refuses (refusals.Fault (Chart f)) = (draft : Tree) × HasDraft text draft × IsFirstFault draft f
RefusesBy (Some x) text refuses (refusals.Import e) = RefusesImport x text (refusals.Import e)
RefusesBy chosen text refuses refusal = (draft : Tree) × (s : ChartedText) × IsDrawnBy chosen text draft s × refuses s refusal

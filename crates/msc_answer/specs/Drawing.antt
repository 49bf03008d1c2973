-- What is drawn of a chart.
use Rattle.std.specs.Prelude.{◌≡◌, ℕ, List, Option, None, Some, Result, Ok, Err, codes}
use Rattle.msc_chart.specs.declared.queue.LinkKind.{LinkKind}
use Rattle.msc_chart.specs.declared.queue.LinkKind.TheVariants.{Pair}
use Rattle.msc_chart.specs.declared.queue.Queues.{Queues}
use Rattle.msc_chart.specs.Architectures.{usual_of}
use Rattle.msc_draw.specs.Pictures.{IsNoRace, PrintsPicture, PrintsReversal}
use Rattle.msc_html.specs.Findings.{PrintsReport}
use Rattle.msc_import.specs.Numbering.{arrow_numbers}
use Rattle.msc_print.specs.declared.page.Page.{Page}
use Rattle.msc_parser.specs.Grammar.{Tree}
use Rattle.msc_report.specs.declared.fault.Fault.TheVariants.{Memory}
use Rattle.msc_report.specs.declared.pair.NamedFault.TheVariants.{NoRace}
use Rattle.msc_answer.specs.Charted.{ChartedText}
use Rattle.msc_answer.specs.Linked.{AreLinked, HasLinkFault}
use Rattle.msc_answer.specs.Naming.{AreTwoNamed, IsNamedFault}
use Rattle.msc_answer.specs.declared.importing.ImportedDiagram.{ImportedDiagram}
use Rattle.msc_answer.specs.declared.ending.Refusal.{Refusal}
use Rattle.msc_answer.specs.declared.ending.Refusal.TheVariants as refusals
use Rattle.msc_answer.specs.declared.ending.Status.{Status}
use Rattle.msc_answer.specs.declared.ending.Status.TheVariants.{Done}
use Rattle.msc_answer.specs.declared.tasks.Drawn.{Drawn}
use Rattle.msc_answer.specs.declared.tasks.Drawn.TheVariants.{Chart, Run, Report}
use Rattle.msc_answer.specs.declared.tasks.LinkWords.{LinkWords}
use Rattle.msc_answer.specs.declared.tasks.ReverseArgs.{ReverseArgs}

-- the kind of the links that no rule names
abbrev pub usual_drawn : Drawn → LinkKind
usual_drawn (Chart None format) = Pair
usual_drawn (Chart (Some queues) format) = usual_of queues
usual_drawn (Run r) = usual_of r.queues
usual_drawn (Report queues) = usual_of queues

-- the same under another architecture; a chart that is drawn without one stays without one
abbrev pub drawn_under : Queues → Drawn → Drawn
drawn_under queues (Chart None format) = Chart None format
drawn_under queues (Chart (Some other) format) = Chart (Some queues) format
drawn_under queues (Run r) = Run (record r { queues = queues })
drawn_under queues (Report other) = Report queues

-- the version of the program
abbrev pub version : List ℕ
version = codes "0.3.0"

-- the order of the rows of a picture: of a scenario of a diagram, that of its arrows in the text
abbrev pub AreRanks : Option ImportedDiagram → Option (List ℕ) → Type 0
AreRanks None ranks = ranks ≡ None
AreRanks (Some x) None = ⊥
AreRanks (Some x) (Some ranks) = arrow_numbers x.manner x.diagram x.choices.items ≡ Ok ranks

-- what is drawn of the chart of a draft, in such an order
abbrev pub PrintsRanked : Drawn → Tree → ChartedText → Option (List ℕ) → List ℕ → Type 0
PrintsRanked (Chart queues format) draft s ranks printed = PrintsPicture draft s.chart ranks queues format printed
PrintsRanked (Run r) draft s ranks printed =
    (e f : ℕ) × AreTwoNamed s r.first r.second e f × PrintsReversal draft s.chart ranks r.queues r.format e f printed
PrintsRanked (Report queues) draft s ranks printed = PrintsReport draft s.chart ranks queues version printed

-- what is drawn of the chart of a draft
abbrev pub PrintsDrawn : Drawn → Tree → ChartedText → List ℕ → Type 0
PrintsDrawn drawn draft s printed =
    (ranks : Option (List ℕ)) × AreRanks s.drawing ranks × PrintsRanked drawn draft s ranks printed

-- the two events that are named are no race
abbrev pub AreNoRace : ReverseArgs → ChartedText → Type 0
AreNoRace r s = (e f : ℕ) × AreTwoNamed s r.first r.second e f × IsNoRace s.chart r.queues e f

-- why a run can't be drawn: the names are those of no two events, or these are no race
abbrev pub RefusesReversal : ReverseArgs → ChartedText → Refusal → Type 0
RefusesReversal r s (refusals.Pair (NoRace a b)) = (a ≡ r.first) × (b ≡ r.second) × AreNoRace r s
RefusesReversal r s (refusals.Pair fault) = IsNamedFault s r.first r.second fault
RefusesReversal r s refusal = ⊥

abbrev pub RefusesDrawn : Drawn → ChartedText → Refusal → Type 0
RefusesDrawn (Run r) s refusal = RefusesReversal r s refusal
RefusesDrawn drawn s refusal = ⊥

-- the page with what is drawn, or why there is none
abbrev pub IsDrawnOn : Drawn → Tree → ChartedText → Result Page Refusal → Type 0
IsDrawnOn drawn draft s (Ok page) = PrintsDrawn drawn draft s page.bytes.items
IsDrawnOn drawn draft s (Err (refusals.Fault Memory)) = Unit {0}
IsDrawnOn drawn draft s (Err refusal) = RefusesDrawn drawn s refusal

-- what is printed of it, and how the run ends
abbrev pub PrintsPage : Drawn → Tree → ChartedText → Status → List ℕ → Type 0
PrintsPage drawn draft s status printed = (status ≡ Done) × PrintsDrawn drawn draft s printed

-- what is printed under the queues that the rules and the text give
abbrev pub PrintsLinkedPage : Drawn → LinkWords → Tree → ChartedText → Status → List ℕ → Type 0
PrintsLinkedPage drawn words draft s status printed =
    (queues : Queues) × AreLinked (usual_drawn drawn) words s queues × PrintsPage (drawn_under queues drawn) draft s status printed

-- why nothing is printed: there are no queues, or nothing is drawn under them
abbrev pub RefusesLinkedPage : Drawn → LinkWords → ChartedText → Refusal → Type 0
RefusesLinkedPage drawn words s (refusals.Link fault) = HasLinkFault words s fault
RefusesLinkedPage drawn words s refusal =
    (queues : Queues) × AreLinked (usual_drawn drawn) words s queues × RefusesDrawn (drawn_under queues drawn) s refusal

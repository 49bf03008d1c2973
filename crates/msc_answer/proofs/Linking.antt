-- The queues of a chart, and of a diagram by its first scenario.
use Rattle.std.proofs.Common.{◌≡◌, ℕ, List, [], ◌∷◌, Option, None, Some, Result, Ok, Err, inr, subst, sym, arith}
use Rattle.std.specs.Prelude.{slice_get}
use Rattle.msc_chart.specs.declared.queue.LinkKind.{LinkKind}
use Rattle.msc_chart.specs.declared.queue.Queues.{Queues}
use Rattle.msc_chart.specs.Drawings.{Drawing}
use Rattle.msc_chart.specs.Faults.{IsFaultless}
use Rattle.msc_import.specs.declared.importing.Imported.{Imported}
use Rattle.msc_import.specs.declared.drawings.Scenario.{Scenario as Drawn}
use Rattle.msc_report.specs.declared.fault.Fault.TheVariants.{Parse, Chart, NotStarted, Memory, Device}
use Rattle.msc_answer.specs.Charted.{ChartedText}
use Rattle.msc_answer.specs.Charting.{AreCharts}
use Rattle.msc_links.specs.Comments.{own_text}
use Rattle.msc_links.specs.declared.line.LineNames.{LineNames}
use Rattle.msc_answer.specs.Linked.{AreNamesIn, AreNamesOf, IsLinked, IsLinkedAt, IsLinkedBy, IsLinkedIn, IsRuledBy, IsRuledWith, IsRuledWithout}
use Rattle.msc_answer.specs.Own.{OwnSaid, silent, named, said_in, IsOwnBy, SaysIf, SaysInChart, ShowsInChart, ShowsInDiagram}
use Rattle.msc_answer.specs.declared.own.LinkRefusal.TheVariants.{Given, Text, Unclear}
use Rattle.msc_answer.specs.declared.own.OwnComment.{OwnComment}
use Rattle.msc_answer.specs.declared.own.OwnPlace.{OwnPlace}
use Rattle.msc_answer.specs.declared.ending.Refusal.{Refusal}
use Rattle.msc_answer.specs.declared.ending.Refusal.TheVariants as refusals
use Rattle.msc_answer.specs.declared.tasks.LinkWords.{LinkWords}

-- ---- from what the text says to the queues

module _ (says : OwnSaid → Type 0) (shows : ℕ → OwnPlace → Type 0) (are_names : List LineNames → Type 0)
    (usual : LinkKind) (words : LinkWords) where
  -- a text that names no queues
  linked_without : says silent → (names : List LineNames) → are_names names → (answer : Result Queues Refusal)
      → IsRuledWithout usual words names answer → IsLinkedBy says shows are_names usual words answer
  linked_without said names are (Ok queues) ruled = (silent, said, names, are, ruled)
  linked_without said names are (Err (refusals.Fault (Parse f))) ruled = absurd ruled
  linked_without said names are (Err (refusals.Fault (Chart f))) ruled = absurd ruled
  linked_without said names are (Err (refusals.Fault (NotStarted i))) ruled = absurd ruled
  linked_without said names are (Err (refusals.Fault Memory)) ruled = tt
  linked_without said names are (Err (refusals.Fault Device)) ruled = absurd ruled
  linked_without said names are (Err (refusals.Pair f)) ruled = absurd ruled
  linked_without said names are (Err (refusals.Mark f)) ruled = absurd ruled
  linked_without said names are (Err (refusals.ArrowMark f)) ruled = absurd ruled
  linked_without said names are (Err (refusals.Instance name)) ruled = absurd ruled
  linked_without said names are (Err (refusals.Link (Given fault))) ruled = (silent, said, names, are, ruled)
  linked_without said names are (Err (refusals.Link (Text fault place))) ruled = absurd ruled
  linked_without said names are (Err (refusals.Link (Unclear place))) ruled = absurd ruled
  linked_without said names are (Err (refusals.Rounds f)) ruled = absurd ruled
  linked_without said names are (Err (refusals.Import e)) ruled = absurd ruled

  -- a text that names queues in a comment that the code has found
  linked_with : (own : OwnComment) (at : ℕ) → says (named at (own_text own.queues)) → shows at own.place
      → (names : List LineNames) → are_names names → (answer : Result Queues Refusal)
      → IsRuledWith own words names answer → IsLinkedBy says shows are_names usual words answer
  linked_with own at said shown names are (Ok queues) ruled = (named at (own_text own.queues), said, names, are, ruled)
  linked_with own at said shown names are (Err (refusals.Fault (Parse f))) ruled = absurd ruled
  linked_with own at said shown names are (Err (refusals.Fault (Chart f))) ruled = absurd ruled
  linked_with own at said shown names are (Err (refusals.Fault (NotStarted i))) ruled = absurd ruled
  linked_with own at said shown names are (Err (refusals.Fault Memory)) ruled = tt
  linked_with own at said shown names are (Err (refusals.Fault Device)) ruled = absurd ruled
  linked_with own at said shown names are (Err (refusals.Pair f)) ruled = absurd ruled
  linked_with own at said shown names are (Err (refusals.Mark f)) ruled = absurd ruled
  linked_with own at said shown names are (Err (refusals.ArrowMark f)) ruled = absurd ruled
  linked_with own at said shown names are (Err (refusals.Instance name)) ruled = absurd ruled
  linked_with own at said shown names are (Err (refusals.Link (Given fault))) ruled =
      (named at (own_text own.queues), said, names, are, ruled)
  linked_with own at said shown names are (Err (refusals.Link (Text fault place))) ruled =
      (at, own_text own.queues, said, subst (λ (p : OwnPlace). shows at p) (sym ruled.0) shown, names, are, ruled.1)
  linked_with own at said shown names are (Err (refusals.Link (Unclear place))) ruled = absurd ruled
  linked_with own at said shown names are (Err (refusals.Rounds f)) ruled = absurd ruled
  linked_with own at said shown names are (Err (refusals.Import e)) ruled = absurd ruled

  -- a text, whether it names queues or not
  pub linked_by : (own : Option OwnComment) → IsOwnBy says shows (Ok own) → (names : List LineNames) → are_names names
      → (answer : Result Queues Refusal) → IsRuledBy usual own words names answer
      → IsLinkedBy says shows are_names usual words answer
  linked_by None said names are answer ruled = linked_without said names are answer ruled
  linked_by (Some own) said names are answer ruled = linked_with own said.0 said.1 said.2 names are answer ruled

  -- a text that cannot be read
  pub not_linked_by : (refusal : Refusal) → IsOwnBy says shows (Err refusal)
      → IsLinkedBy says shows are_names usual words (Err refusal)
  not_linked_by (refusals.Fault (Parse f)) said = absurd said
  not_linked_by (refusals.Fault (Chart f)) said = absurd said
  not_linked_by (refusals.Fault (NotStarted i)) said = absurd said
  not_linked_by (refusals.Fault Memory) said = tt
  not_linked_by (refusals.Fault Device) said = absurd said
  not_linked_by (refusals.Pair f) said = absurd said
  not_linked_by (refusals.Mark f) said = absurd said
  not_linked_by (refusals.ArrowMark f) said = absurd said
  not_linked_by (refusals.Instance name) said = absurd said
  not_linked_by (refusals.Link (Given fault)) said = absurd said
  not_linked_by (refusals.Link (Text fault place)) said = absurd said
  not_linked_by (refusals.Link (Unclear place)) said = said
  not_linked_by (refusals.Rounds f) said = absurd said
  not_linked_by (refusals.Import e) said = absurd said

-- ---- a text with its chart

module _ (usual : LinkKind) (words : LinkWords) (s : ChartedText) (text : List ℕ) (d : Drawing) (text_is : text ≡ s.text) (chart_is : d ≡ s.chart) where
  -- a text that draws its chart
  pub linked_in_text : s.imported ≡ None → (answer : Result Queues Refusal)
      → IsLinkedBy (SaysIf words.own (SaysInChart text)) (ShowsInChart text) (AreNamesIn d) usual words answer → IsLinked usual words s answer
  linked_in_text none answer said = rw (none, ← text_is, ← chart_is) said

  -- and a diagram
  pub linked_in_diagram : (is : Imported) → s.imported ≡ Some is → (answer : Result Queues Refusal)
      → IsLinkedBy (SaysIf words.own (λ (said : OwnSaid). said ≡ said_in text is.spans.comments)) (ShowsInDiagram text) (AreNamesOf text is.spans d) usual words answer
      → IsLinked usual words s answer
  linked_in_diagram is some answer said = rw (some, ← text_is, ← chart_is) said

-- ---- the first scenario

-- the first of some charts is one
pub one_of_charts : (all : List Drawn) → AreCharts all → (s : Drawn) → slice_get all 0 ≡ Some s → IsFaultless s.draft
one_of_charts [] charts s is = cc
one_of_charts (first ∷ more) charts s is =
    let same : first ≡ s = cc in
    subst (λ (d : Drawn). IsFaultless d.draft) same (charts 0 s (omega arith))

module _ (usual : LinkKind) (words : LinkWords) (text : List ℕ) where
  -- what the first scenario gives is what the diagram gives
  first_gives : (s : Drawn) (scenarios : List Drawn) (answer : Result Queues Refusal) → IsLinkedAt usual words text s answer
      → IsLinkedIn usual words text (s ∷ scenarios) answer
  first_gives s scenarios (Ok queues) said = inr said
  first_gives s scenarios (Err (refusals.Fault (Parse f))) said = said
  first_gives s scenarios (Err (refusals.Fault (Chart f))) said = said
  first_gives s scenarios (Err (refusals.Fault (NotStarted i))) said = said
  first_gives s scenarios (Err (refusals.Fault Memory)) said = said
  first_gives s scenarios (Err (refusals.Fault Device)) said = said
  first_gives s scenarios (Err (refusals.Pair f)) said = said
  first_gives s scenarios (Err (refusals.Mark f)) said = said
  first_gives s scenarios (Err (refusals.ArrowMark f)) said = said
  first_gives s scenarios (Err (refusals.Instance name)) said = said
  first_gives s scenarios (Err (refusals.Link fault)) said = said
  first_gives s scenarios (Err (refusals.Rounds f)) said = said
  first_gives s scenarios (Err (refusals.Import e)) said = said

  pub linked_first : (scenarios : List Drawn) (s : Drawn) → slice_get scenarios 0 ≡ Some s → (answer : Result Queues Refusal)
      → IsLinkedAt usual words text s answer → IsLinkedIn usual words text scenarios answer
  linked_first [] s is answer said = cc
  linked_first (first ∷ scenarios) s is answer said =
      let same : first ≡ s = cc in
      first_gives first scenarios answer (subst (λ (d : Drawn). IsLinkedAt usual words text d answer) (sym same) said)

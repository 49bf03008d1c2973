-- What was drawn of a chart was drawn of its text.
use Rattle.std.proofs.Common.{◌≡◌, ℕ, List, Option, Result, Err, inl, refl, subst}
use Rattle.msc_parser.specs.Grammar.{Tree}
use Rattle.msc_report.specs.declared.fault.Fault.{Fault}
use Rattle.msc_report.specs.declared.fault.Fault.TheVariants.{Parse, Chart as Built, NotStarted, Memory, Device}
use Rattle.msc_answer.specs.declared.ending.Refusal.{Refusal}
use Rattle.msc_answer.specs.declared.ending.Refusal.TheVariants as refusals
use Rattle.msc_answer.specs.declared.ending.Status.{Status}
use Rattle.msc_answer.specs.declared.tasks.Drawn.{Drawn}
use Rattle.msc_answer.specs.declared.tasks.Drawn.TheVariants.{Chart, Run, Report}
use Rattle.msc_answer.specs.Answering.{Answers}
use Rattle.msc_import.specs.declared.importing.Refused.{Refused}
use Rattle.msc_answer.specs.Charted.{ChartedText}
use Rattle.msc_answer.specs.Drawing.{drawn_under, usual_drawn, IsDrawnOn, PrintsLinkedPage, PrintsPage, RefusesDrawn, RefusesLinkedPage}
use Rattle.msc_answer.specs.Linked.{AreLinked, IsLinked}
use Rattle.msc_answer.specs.declared.own.LinkRefusal.{LinkRefusal}
use Rattle.msc_answer.specs.declared.tasks.LinkWords.{LinkWords}
use Rattle.msc_chart.specs.declared.queue.LinkKind.{LinkKind}
use Rattle.msc_chart.specs.declared.queue.Queues.{Queues}
use Rattle.msc_answer.proofs.Answered.{answers_so}

-- a fault of some phase is no reason not to draw a chart
no_fault_of : (drawn : Drawn) (s : ChartedText) (f : Fault) → RefusesDrawn drawn s (refusals.Fault f) → ⊥
no_fault_of (Chart queues format) s f fails = fails
no_fault_of (Run r) s f fails = fails
no_fault_of (Report queues) s f fails = fails

-- nor is a fault of links
no_link_of : (drawn : Drawn) (s : ChartedText) (fault : LinkRefusal) → RefusesDrawn drawn s (refusals.Link fault) → ⊥
no_link_of (Chart queues format) s fault fails = fails
no_link_of (Run r) s fault fails = fails
no_link_of (Report queues) s fault fails = fails

-- nor is that nothing is imported
no_import_of : (drawn : Drawn) (s : ChartedText) (e : Refused) → RefusesDrawn drawn s (refusals.Import e) → ⊥
no_import_of (Chart queues format) s e fails = fails
no_import_of (Run r) s e fails = fails
no_import_of (Report queues) s e fails = fails

module _ (drawn : Drawn) (words : LinkWords) (s : ChartedText) where
  -- so a text with its chart is not refused for that
  pub no_fault_linked : (f : Fault) → RefusesLinkedPage drawn words s (refusals.Fault f) → ⊥
  no_fault_linked f fails = no_fault_of (drawn_under fails.0 drawn) s f fails.2

  pub no_import_linked : (e : Refused) → RefusesLinkedPage drawn words s (refusals.Import e) → ⊥
  no_import_linked e fails = no_import_of (drawn_under fails.0 drawn) s e fails.2

module _ {W : Type 0} (contents : W → Option (List ℕ)) (drawn : Drawn) (words : LinkWords) (draft : Tree) (s : ChartedText) where
  -- where there are no queues, nothing is drawn
  not_linked : (r : Refusal) (now : W) → IsLinked (usual_drawn drawn) words s (Err r)
      → Answers contents (PrintsLinkedPage drawn words draft s) (RefusesLinkedPage drawn words s) (Err r) now now
  not_linked (refusals.Fault (Parse f)) now said = absurd said
  not_linked (refusals.Fault (Built f)) now said = absurd said
  not_linked (refusals.Fault (NotStarted i)) now said = absurd said
  not_linked (refusals.Fault Memory) now said = inl refl
  not_linked (refusals.Fault Device) now said = absurd said
  not_linked (refusals.Pair f) now said = absurd said
  not_linked (refusals.Mark f) now said = absurd said
  not_linked (refusals.ArrowMark f) now said = absurd said
  not_linked (refusals.Instance name) now said = absurd said
  not_linked (refusals.Link fault) now said = (said, refl)
  not_linked (refusals.Rounds f) now said = absurd said
  not_linked (refusals.Import e) now said = absurd said

  -- the same of a kind that is this
  pub undrawn_linked : (usual : LinkKind) → usual ≡ usual_drawn drawn → (r : Refusal) (now : W) → IsLinked usual words s (Err r)
      → Answers contents (PrintsLinkedPage drawn words draft s) (RefusesLinkedPage drawn words s) (Err r) now now
  undrawn_linked usual kind_is r now said =
      not_linked r now (subst (λ (k : LinkKind). IsLinked k words s (Err r)) kind_is said)

  module _ (queues : Queues) (linked : AreLinked (usual_drawn drawn) words s queues) where
    -- what is refused under these queues
    refused_under : (r : Refusal) → RefusesDrawn (drawn_under queues drawn) s r → RefusesLinkedPage drawn words s r
    refused_under (refusals.Fault f) fails = (queues, linked, fails)
    refused_under (refusals.Pair f) fails = (queues, linked, fails)
    refused_under (refusals.Mark f) fails = (queues, linked, fails)
    refused_under (refusals.ArrowMark f) fails = (queues, linked, fails)
    refused_under (refusals.Instance name) fails = (queues, linked, fails)
    refused_under (refusals.Link fault) fails = absurd (no_link_of (drawn_under queues drawn) s fault fails)
    refused_under (refusals.Rounds f) fails = (queues, linked, fails)
    refused_under (refusals.Import e) fails = (queues, linked, fails)

    -- what was drawn under these queues
    pub drawn_linked : (answer : Result Status Refusal) (old new : W)
        → Answers contents (PrintsPage (drawn_under queues drawn) draft s) (RefusesDrawn (drawn_under queues drawn) s) answer old new
        → Answers contents (PrintsLinkedPage drawn words draft s) (RefusesLinkedPage drawn words s) answer old new
    drawn_linked answer old new said =
        answers_so contents (PrintsPage (drawn_under queues drawn) draft s) (PrintsLinkedPage drawn words draft s)
        (RefusesDrawn (drawn_under queues drawn) s) (RefusesLinkedPage drawn words s)
        (λ status printed says. (queues, linked, says)) refused_under answer old new said

-- why nothing is drawn is why the task is refused, or memory ran out
pub undrawn : {W : Type 0} (contents : W → Option (List ℕ)) (drawn : Drawn) (draft : Tree) (s : ChartedText) (r : Refusal) (now : W)
    → IsDrawnOn drawn draft s (Err r) → Answers contents (PrintsPage drawn draft s) (RefusesDrawn drawn s) (Err r) now now
undrawn contents drawn draft s (refusals.Fault Memory) now said = inl refl
undrawn contents drawn draft s (refusals.Fault Device) now said = tt
undrawn contents drawn draft s (refusals.Fault (Parse f)) now fails = (fails, refl)
undrawn contents drawn draft s (refusals.Fault (Built f)) now fails = (fails, refl)
undrawn contents drawn draft s (refusals.Fault (NotStarted i)) now fails = (fails, refl)
undrawn contents drawn draft s (refusals.Pair f) now fails = (fails, refl)
undrawn contents drawn draft s (refusals.Mark f) now fails = (fails, refl)
undrawn contents drawn draft s (refusals.ArrowMark f) now fails = (fails, refl)
undrawn contents drawn draft s (refusals.Instance name) now fails = (fails, refl)
undrawn contents drawn draft s (refusals.Link fault) now fails = (fails, refl)
undrawn contents drawn draft s (refusals.Rounds f) now fails = (fails, refl)
undrawn contents drawn draft s (refusals.Import e) now fails = (fails, refl)

-- Why nothing is imported of a text, and what is printed of what is.
use Rattle.std.proofs.Common.{◌≡◌, ℕ, true, false, List, [], Option, Result, Ok, Err, inl, inr, refl, subst, sym, ◌∙◌}
use Rattle.msc_mermaid.specs.declared.fault.ImportFault.{ImportFault}
use Rattle.msc_mermaid.specs.declared.fault.ImportFault.TheVariants as imports
use Rattle.msc_import.specs.declared.importing.Imported.{Imported}
use Rattle.msc_import.specs.declared.importing.Refused.{Refused as NotImported}
use Rattle.msc_import.specs.Drafting.{IsReadAgain}
use Rattle.msc_import.specs.Importing.{Refusal as Said, RefusesSo, Wanted, imported, seen}
use Rattle.msc_import.specs.Laws.{ReadingComesFirst}
use Rattle.msc_import_laws.specs.Imports.{ImportsAreCharts}
use Rattle.msc_print.specs.declared.page.Page.{Page}
use Rattle.msc_report.specs.declared.fault.Fault.TheVariants.{Parse, Chart, NotStarted, Memory, Device}
use Rattle.msc_report.specs.Refusals.{of_source}
use Rattle.msc_source.specs.declared.fault.SourceFault.{SourceFault}
use Rattle.msc_source.specs.declared.fault.SourceFault.TheVariants as sources
use Rattle.msc_answer.specs.Answering.{Answers}
use Rattle.msc_answer.specs.Ending.{of_import, of_import_fault}
use Rattle.msc_answer.specs.Importing.{IsChartImport, IsChartOrFault, IsCommentOf, IsImportAs, IsImportBy, IsImportedOn, IsNotImported, IsPageOf, IsReadFor, IsTextOf, PrintsImportPage, RefusesImport, wanted_of, wanted_with}
use Rattle.msc_answer.specs.declared.ending.Refusal.{Refusal}
use Rattle.msc_answer.specs.declared.ending.Refusal.TheVariants as refusals
use Rattle.msc_answer.specs.declared.importing.ImportedDiagram.{ImportedDiagram}
use Rattle.msc_answer.specs.declared.tasks.ChosenArgs.{ChosenArgs}
use Rattle.msc_answer.specs.declared.tasks.DiagramArgs.{DiagramArgs}
use Rattle.msc_answer.specs.declared.tasks.ImportArgs.{ImportArgs}

-- a fault that is not want of memory is the one of the definition
is_said : {A : Type 0} (e : NotImported) (said : Result A Said) (f : ImportFault) → e.fault ≡ f → (f ≡ imports.Memory → ⊥) → RefusesSo e said → said ≡ Err (seen e)
is_said e said f is other (inl spent) = absurd (other (sym is ∙ spent))
is_said e said f is other (inr same) = same

module _ {A : Type 0} (said : Result A Said) where
  by_fault : (e : NotImported) (f : ImportFault) → e.fault ≡ f → RefusesSo e said → IsNotImported said (of_import_fault e f)
  by_fault e imports.Memory is h = tt
  by_fault e imports.TooLong is h = is_said e said imports.TooLong is (λ m. cc) h
  by_fault e (imports.Expected a b) is h = is_said e said (imports.Expected a b) is (λ m. cc) h
  by_fault e (imports.Unsupported a b) is h = is_said e said (imports.Unsupported a b) is (λ m. cc) h
  by_fault e (imports.Unended a) is h = is_said e said (imports.Unended a) is (λ m. cc) h
  by_fault e (imports.Outside a b) is h = is_said e said (imports.Outside a b) is (λ m. cc) h
  by_fault e (imports.Entity a) is h = is_said e said (imports.Entity a) is (λ m. cc) h
  by_fault e (imports.Stray a) is h = is_said e said (imports.Stray a) is (λ m. cc) h
  by_fault e (imports.TooDeep a) is h = is_said e said (imports.TooDeep a) is (λ m. cc) h
  by_fault e (imports.TooManyLines a) is h = is_said e said (imports.TooManyLines a) is (λ m. cc) h
  by_fault e (imports.TooManyScenarios a) is h = is_said e said (imports.TooManyScenarios a) is (λ m. cc) h
  by_fault e (imports.Several a) is h = is_said e said (imports.Several a) is (λ m. cc) h
  by_fault e (imports.Choice a b d) is h = is_said e said (imports.Choice a b d) is (λ m. cc) h
  by_fault e (imports.TooManyChoices a b) is h = is_said e said (imports.TooManyChoices a b) is (λ m. cc) h
  by_fault e (imports.TooManyArrows a) is h = is_said e said (imports.TooManyArrows a) is (λ m. cc) h
  by_fault e (imports.Shared a b) is h = is_said e said (imports.Shared a b) is (λ m. cc) h
  by_fault e (imports.NoDiagram a) is h = is_said e said (imports.NoDiagram a) is (λ m. cc) h
  by_fault e (imports.SeveralDiagrams a) is h = is_said e said (imports.SeveralDiagrams a) is (λ m. cc) h

  -- so nothing is imported of the text
  pub not_imported : (e : NotImported) → RefusesSo e said → IsNotImported said (of_import e)
  not_imported e h = by_fault e e.fault refl h

-- what is imported of a text is a chart
pub is_chart : ImportsAreCharts → (x : ChosenArgs) (text : List ℕ) (answer : Result ImportedDiagram Refusal)
    → IsImportBy x.diagram.fence (wanted_of x) text answer → IsChartImport x text answer
is_chart charts x text (Ok drawing) said = record {
  chosen = record { of_text = said.imported_is; again = said.again; faultless = charts (wanted_of x) text drawing.imported said.imported_is };
  diagram_is = said.diagram_is;
  number_is = said.number_is;
  choices_are = said.choices_are;
  manner_is = said.manner_is;
}
is_chart charts x text (Err r) said = said

module _ (x : ImportArgs) (text file : List ℕ) where
  -- and there is no page of it
  pub not_on_page : (r : Refusal) → IsNotImported (imported (wanted_of x.chosen) text) r → IsImportedOn x file text (Err r)
  not_on_page (refusals.Import e) said = said
  not_on_page (refusals.Fault Memory) said = tt
  not_on_page (refusals.Fault Device) said = absurd said
  not_on_page (refusals.Fault (Parse f)) said = absurd said
  not_on_page (refusals.Fault (Chart f)) said = absurd said
  not_on_page (refusals.Fault (NotStarted i)) said = absurd said
  not_on_page (refusals.Pair f) said = absurd said
  not_on_page (refusals.Mark f) said = absurd said
  not_on_page (refusals.ArrowMark f) said = absurd said
  not_on_page (refusals.Instance name) said = absurd said
  not_on_page (refusals.Link fault) said = absurd said
  not_on_page (refusals.Rounds f) said = absurd said

  -- the page of what was imported
  pub on_page : ImportsAreCharts → (is : Imported) (r : Result Page Refusal) → (imported (wanted_of x.chosen) text ≡ Ok is) × IsReadAgain is.draft → IsPageOf (wanted_of x.chosen) x.list file text is r → IsImportedOn x file text r
  on_page charts is (Ok page) of_text prints = (is, of_text.0, of_text.1, prints)
  on_page charts is (Err (refusals.Fault Memory)) of_text said = tt
  on_page charts is (Err (refusals.Fault (Chart f))) of_text said = absurd (charts (wanted_of x.chosen) text is of_text.0 f said.stands)
  on_page charts is (Err (refusals.Fault Device)) of_text said = absurd said
  on_page charts is (Err (refusals.Fault (Parse f))) of_text said = absurd said
  on_page charts is (Err (refusals.Fault (NotStarted i))) of_text said = absurd said
  on_page charts is (Err (refusals.Import e)) of_text said = absurd said
  on_page charts is (Err (refusals.Pair f)) of_text said = absurd said
  on_page charts is (Err (refusals.Mark f)) of_text said = absurd said
  on_page charts is (Err (refusals.ArrowMark f)) of_text said = absurd said
  on_page charts is (Err (refusals.Instance name)) of_text said = absurd said
  on_page charts is (Err (refusals.Link fault)) of_text said = absurd said
  on_page charts is (Err (refusals.Rounds f)) of_text said = absurd said

  -- why there is no page is why the task is refused, or memory ran out
  pub unprinted : {W : Type 0} (contents : W → Option (List ℕ)) (r : Refusal) (now : W) → IsImportedOn x file text (Err r)
      → Answers contents (PrintsImportPage x file text) (RefusesImport x.chosen text) (Err r) now now
  unprinted contents (refusals.Fault Memory) now said = inl refl
  unprinted contents (refusals.Fault Device) now said = tt
  unprinted contents (refusals.Fault (Parse f)) now fails = (fails, refl)
  unprinted contents (refusals.Fault (Chart f)) now fails = (fails, refl)
  unprinted contents (refusals.Fault (NotStarted i)) now fails = (fails, refl)
  unprinted contents (refusals.Pair f) now fails = (fails, refl)
  unprinted contents (refusals.Mark f) now fails = (fails, refl)
  unprinted contents (refusals.ArrowMark f) now fails = (fails, refl)
  unprinted contents (refusals.Instance name) now fails = (fails, refl)
  unprinted contents (refusals.Link fault) now fails = (fails, refl)
  unprinted contents (refusals.Rounds f) now fails = (fails, refl)
  unprinted contents (refusals.Import e) now fails = (fails, refl)

-- a draft that is no chart is not listed
pub not_listed : (x : Wanted) (file text : List ℕ) (is : Imported) (fault : SourceFault) → IsChartOrFault is.draft (Err fault) → IsPageOf x true file text is (Err (refusals.Fault (of_source fault)))
not_listed x file text is (sources.Parse f) said = absurd said
not_listed x file text is (sources.Chart f) said = said
not_listed x file text is sources.Memory said = tt

-- nor has its diagram a comment with queues
pub no_comment : (text : List ℕ) (is : Imported) (fault : SourceFault) → IsChartOrFault is.draft (Err fault) → IsCommentOf text is (Err (refusals.Fault (of_source fault)))
no_comment text is (sources.Parse f) said = absurd said
no_comment text is (sources.Chart f) said = said
no_comment text is sources.Memory said = tt

-- so there is no text of it
pub no_text : (text : List ℕ) (is : Imported) (refusal : Refusal) → IsCommentOf text is (Err refusal) → IsTextOf text is (Err refusal)
no_text text is (refusals.Fault Memory) said = tt
no_text text is (refusals.Fault (Chart f)) said = said
no_text text is (refusals.Fault Device) said = absurd said
no_text text is (refusals.Fault (Parse f)) said = absurd said
no_text text is (refusals.Fault (NotStarted i)) said = absurd said
no_text text is (refusals.Import e) said = absurd said
no_text text is (refusals.Pair f) said = absurd said
no_text text is (refusals.Mark f) said = absurd said
no_text text is (refusals.ArrowMark f) said = absurd said
no_text text is (refusals.Instance name) said = absurd said
no_text text is (refusals.Link fault) said = absurd said
no_text text is (refusals.Rounds f) said = absurd said

-- so there is no page of it
pub no_page : (x : Wanted) (text : List ℕ) (is : Imported) (refusal : Refusal) → IsTextOf text is (Err refusal) → IsPageOf x false [] text is (Err refusal)
no_page x text is (refusals.Fault Memory) said = tt
no_page x text is (refusals.Fault (Chart f)) said = said
no_page x text is (refusals.Fault Device) said = absurd said
no_page x text is (refusals.Fault (Parse f)) said = absurd said
no_page x text is (refusals.Fault (NotStarted i)) said = absurd said
no_page x text is (refusals.Import e) said = absurd said
no_page x text is (refusals.Pair f) said = absurd said
no_page x text is (refusals.Mark f) said = absurd said
no_page x text is (refusals.ArrowMark f) said = absurd said
no_page x text is (refusals.Instance name) said = absurd said
no_page x text is (refusals.Link fault) said = absurd said
no_page x text is (refusals.Rounds f) said = absurd said

-- what a diagram is refused for, nothing is imported for
pub not_read : ReadingComesFirst → (x : Wanted) (text : List ℕ) (r : Refusal) → IsReadFor x text (Err r) → IsImportAs x text (Err r)
not_read law x text (refusals.Fault Memory) said = tt
not_read law x text (refusals.Fault (Chart f)) said = absurd said
not_read law x text (refusals.Fault Device) said = absurd said
not_read law x text (refusals.Fault (Parse f)) said = absurd said
not_read law x text (refusals.Fault (NotStarted i)) said = absurd said
not_read law x text (refusals.Import e) said = law.one_refused x text (seen e) said
not_read law x text (refusals.Pair f) said = absurd said
not_read law x text (refusals.Mark f) said = absurd said
not_read law x text (refusals.ArrowMark f) said = absurd said
not_read law x text (refusals.Instance name) said = absurd said
not_read law x text (refusals.Link fault) said = absurd said
not_read law x text (refusals.Rounds f) said = absurd said

-- the same choices give the same import
pub with_given : (x : DiagramArgs) (text : List ℕ) (g h : Option (List ℕ)) → g ≡ h → (answer : Result Imported Refusal) → IsImportAs (wanted_with x g) text answer → IsImportAs (wanted_with x h) text answer
with_given x text g h same answer said = subst (λ (k : Option (List ℕ)). IsImportAs (wanted_with x k) text answer) same said

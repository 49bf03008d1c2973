-- The report of all scenarios of a diagram: its findings, its scenarios, and why there is none.
use Rattle.std.proofs.Common.{◌≡◌, ◌<◌, ◌+◌, ℕ, List, [], ◌∷◌, ◌++◌, Option, None, Some, Ok, Err, inl, inr, false, refl, length, nat_eq, nat_lt, sym, subst, arith}
use Rattle.std.specs.Io.KnownBytes.{Appends}
use Rattle.msc_diagram.specs.Judging.{JudgesScenarios}
use Rattle.msc_diagram.specs.declared.judging.Judged.{Judged}
use Rattle.msc_diagram.specs.declared.scenario.Scenario.{Scenario}
use Rattle.msc_html.specs.DiagramReports.{races_in}
use Rattle.msc_html.specs.declared.diagram.ReportSection.{ReportSection}
use Rattle.msc_chart.specs.declared.queue.Queues.{Queues}
use Rattle.msc_chart.specs.Architectures.{usual_of}
use Rattle.msc_import.specs.Importing.{read}
use Rattle.msc_import.specs.Whole.{imported_all, reading_of_all}
use Rattle.msc_mermaid.specs.declared.statement.Diagram.{Diagram}
use Rattle.msc_import.specs.declared.whole.Scenarios.{Scenarios}
use Rattle.msc_report.specs.declared.fault.Fault.TheVariants.{Parse, Chart, NotStarted, Memory, Device}
use Rattle.msc_answer.specs.Answering.{Does}
use Rattle.msc_answer.specs.ArrowMarks.{ReadsArrowMarks}
use Rattle.msc_answer.specs.Linked.{AreLinkedIn}
use Rattle.msc_answer.specs.Reported.{reported_scenarios, AreSectionsFrom, IsFoundText, IsReportBy, IsReportPage, IsSectionAt}
use Rattle.msc_answer.specs.Reported.AreSectionsFrom.{none, passed, told}
use Rattle.msc_answer.specs.Scenarios.{check_of, top_in, wanted_of, IsImportOfAll, IsLinkedArgs, TellsFormat}
use Rattle.msc_answer.specs.declared.ending.Refusal.{Refusal}
use Rattle.msc_answer.specs.declared.ending.Refusal.TheVariants as refusals
use Rattle.msc_answer.specs.declared.scenarios.Told.{Told}
use Rattle.msc_answer.specs.declared.tasks.CheckArgs.{CheckArgs}
use Rattle.msc_answer.specs.declared.tasks.DiagramArgs.{DiagramArgs}
use Rattle.msc_answer.specs.declared.tasks.ReportArgs.{ReportArgs}
use Rattle.msc_answer.specs.declared.tasks.ScenarioArgs.{ScenarioArgs}
use Rattle.msc_answer.specs.declared.tasks.Task.TheVariants.{Report}

-- a list that is not empty has an item
pub some_from_test : {X : Type 0} (xs : List X) → nat_eq (length xs) 0 ≡ false → 0 < length xs
some_from_test [] is = absurd cc
some_from_test (x ∷ xs) is = omega arith

-- the races of one scenario more
pub races_more : (sections : List ReportSection) (s : ReportSection) → races_in (sections ++ s ∷ []) ≡ races_in sections + s.races
races_more [] s = omega arith
races_more (r ∷ sections) s = let rest = races_more sections s in omega (arith, rest)

module _ (x : DiagramArgs) (t : Told) (scenarios : List Scenario) where
  -- no race of the next scenario is new
  pub passed_more : (i first many : ℕ) (new : List (List (ℕ × ℕ))) (sections : List ReportSection)
      → AreSectionsFrom x t scenarios i first many new sections
      → AreSectionsFrom x t scenarios i first many (new ++ [] ∷ []) sections
  passed_more i first many new sections none = passed none
  passed_more i first many ([] ∷ new) sections (passed rest) = passed (passed_more (i + 1) first many new sections rest)
  passed_more i first many (races ∷ new) (s ∷ sections) (told some is rest) =
      told some is (passed_more (i + 1) (first + s.races) (many + 1) new sections rest)

  -- the next scenario has new races
  pub told_more : (i first many at before shown : ℕ) (new : List (List (ℕ × ℕ))) (sections : List ReportSection) (races : List (ℕ × ℕ)) (s : ReportSection)
      → AreSectionsFrom x t scenarios i first many new sections → at ≡ i + length new → before ≡ first + races_in sections
      → shown ≡ many + length sections → 0 < length races → IsSectionAt x t scenarios at races before (nat_lt shown 8) s
      → AreSectionsFrom x t scenarios i first many (new ++ races ∷ []) (sections ++ s ∷ [])
  told_more i first many at before shown new sections races s none where_ there so some is =
      let a : at ≡ i = omega (arith, where_) in
      let b : before ≡ first = omega (arith, there) in
      let c : shown ≡ many = omega (arith, so) in
      told some (rw (← a, ← b, ← c) is) none
  told_more i first many at before shown ([] ∷ new) sections races s (passed rest) where_ there so some is =
      passed (told_more (i + 1) first many at before shown new sections races s rest (omega (arith, where_)) there so some is)
  told_more i first many at before shown (more ∷ new) (r ∷ sections) races s (told any its rest) where_ there so some is =
      told any its (told_more (i + 1) (first + r.races) (many + 1) at before shown new sections races s rest
      (omega (arith, where_)) (omega (arith, there)) (omega (arith, so)) some is)

-- findings that were written to an empty page are its bytes
pub found_so : {W : Type 0} (contents : W → Option (List ℕ)) (c : CheckArgs) (t : Told) (scenarios : List Scenario) (judged : Judged) (old new : W) (text : List ℕ)
    → contents old ≡ Some [] → contents new ≡ Some text → TellsFormat contents c t None scenarios (Ok judged) old new
    → IsFoundText c t scenarios text
found_so contents c t scenarios judged old new text empty full (inl (format, its, (printed, says, wrote))) =
    let on_empty = subst (λ (x : Option (List ℕ)). Appends x (contents new) printed) empty wrote in
    let same : text ≡ printed = subst (λ (x : Option (List ℕ)). Appends (Some []) x printed) full on_empty in
    (format, its, judged, subst (λ (l : List ℕ). JudgesScenarios (top_in format c t scenarios) scenarios (check_of c None) format judged l) (sym same) says)
found_so contents c t scenarios judged old new text empty full (inr (never, same)) = absurd cc

-- a report by equal words of equal scenarios
pub page_under : (x z : ScenarioArgs) (k : CheckArgs) (t : Told) (l m : List Scenario) (printed : List ℕ)
    → z ≡ record x { check_args = k } → l ≡ m → IsReportPage z t l printed
    → IsReportPage (record x { check_args = k }) t m printed
page_under x z k t l m printed is same page =
    subst (λ (n : List Scenario). IsReportPage (record x { check_args = k }) t n printed) same
    (subst (λ (y : ScenarioArgs). IsReportPage y t l printed) is page)

module _ (x : ScenarioArgs) (file text : List ℕ) where
  -- there is no report of a text without scenarios
  pub none_imported : (r : Refusal) → IsImportOfAll x text (Err r) → IsReportBy x file text (Err r)
  none_imported (refusals.Fault Memory) said = tt
  none_imported (refusals.Fault (Chart f)) said = absurd said
  none_imported (refusals.Fault Device) said = absurd said
  none_imported (refusals.Fault (Parse f)) said = absurd said
  none_imported (refusals.Fault (NotStarted i)) said = absurd said
  none_imported (refusals.Import e) said = said
  none_imported (refusals.Pair f) said = absurd said
  none_imported (refusals.Mark f) said = absurd said
  none_imported (refusals.ArrowMark f) said = absurd said
  none_imported (refusals.Instance name) said = absurd said
  none_imported (refusals.Link fault) said = absurd said
  none_imported (refusals.Rounds f) said = absurd said

  -- nor of one with a faulty rule
  pub none_ruled : (all : Scenarios) → imported_all (wanted_of x) text ≡ Ok all → (r : Refusal) → IsLinkedArgs x text all.list (Err r)
      → IsReportBy x file text (Err r)
  none_ruled all is (refusals.Fault Memory) said = tt
  none_ruled all is (refusals.Fault (Chart f)) said = absurd said
  none_ruled all is (refusals.Fault Device) said = absurd said
  none_ruled all is (refusals.Fault (Parse f)) said = absurd said
  none_ruled all is (refusals.Fault (NotStarted i)) said = absurd said
  none_ruled all is (refusals.Import e) said = absurd said
  none_ruled all is (refusals.Pair f) said = absurd said
  none_ruled all is (refusals.Mark f) said = absurd said
  none_ruled all is (refusals.ArrowMark f) said = absurd said
  none_ruled all is (refusals.Instance name) said = absurd said
  none_ruled all is (refusals.Link fault) said = (all, is, said)
  none_ruled all is (refusals.Rounds f) said = absurd said

  -- nor of one with a faulty mark
  pub none_faulty : (all : Scenarios) → imported_all (wanted_of x) text ≡ Ok all → (queues : Queues) → AreLinkedIn (usual_of x.check_args.queues) x.links text all.list queues
      → (d : Diagram) → read (reading_of_all (wanted_of x)) text ≡ Ok d → (r : Refusal) → ReadsArrowMarks x.check_args.accept text d (Err r)
      → IsReportBy x file text (Err r)
  none_faulty all is queues linked d its (refusals.Fault Memory) said = tt
  none_faulty all is queues linked d its (refusals.Fault (Chart f)) said = absurd said
  none_faulty all is queues linked d its (refusals.Fault Device) said = absurd said
  none_faulty all is queues linked d its (refusals.Fault (Parse f)) said = absurd said
  none_faulty all is queues linked d its (refusals.Fault (NotStarted i)) said = absurd said
  none_faulty all is queues linked d its (refusals.Import e) said = absurd said
  none_faulty all is queues linked d its (refusals.Pair f) said = absurd said
  none_faulty all is queues linked d its (refusals.Mark f) said = absurd said
  none_faulty all is queues linked d its (refusals.ArrowMark r) said = (all, is, queues, linked, (said.0, d, its, said.1))
  none_faulty all is queues linked d its (refusals.Instance name) said = absurd said
  none_faulty all is queues linked d its (refusals.Link fault) said = absurd said
  none_faulty all is queues linked d its (refusals.Rounds f) said = absurd said

module _ {W : Type 0} (contents : W → Option (List ℕ)) (x : ReportArgs) (file text : List ℕ) where
  -- what is not reported is refused, or memory ran out
  pub unreported : (r : Refusal) (now : W) → IsReportBy (reported_scenarios x) file text (Err r)
      → Does contents (Report x) file text (Err r) now now
  unreported (refusals.Fault Memory) now said = inl refl
  unreported (refusals.Fault (Chart f)) now said = absurd said
  unreported (refusals.Fault Device) now said = tt
  unreported (refusals.Fault (Parse f)) now said = absurd said
  unreported (refusals.Fault (NotStarted i)) now said = absurd said
  unreported (refusals.Import e) now said = (said, refl)
  unreported (refusals.Pair f) now said = absurd said
  unreported (refusals.Mark f) now said = absurd said
  unreported (refusals.ArrowMark r) now said = (said, refl)
  unreported (refusals.Instance name) now said = absurd said
  unreported (refusals.Link fault) now said = (said, refl)
  unreported (refusals.Rounds f) now said = absurd said

-- What is asked of the races of a diagram's scenarios, in a form.
use Rattle.std.specs.Prelude.{◌≡◌, ◌⊎◌, ◌<◌, ℕ, Bool, true, false, not, List, [], ◌++◌, Option, None, Some, Result, Ok, Err, length, map, nat_eq, take}
use Rattle.std.specs.Io.KnownBytes.{Appends}
use Rattle.std.specs.List.{filter, All}
use Rattle.msc_chart.specs.declared.queue.Queues.{Queues}
use Rattle.msc_chart.specs.Lists.{Occurs}
use Rattle.msc_judge.specs.Findings.{Texts}
use Rattle.msc_print.specs.Pages.{WritesBeginning}
use Rattle.msc_judge.specs.Options.{counted, for_editors, for_people}
use Rattle.msc_print.specs.declared.page.WriteFault.{WriteFault}
use Rattle.msc_print.specs.declared.page.WriteFault.TheVariants.{Memory, Device}
use Rattle.msc_judge.specs.declared.renderer.Heading.{Heading}
use Rattle.msc_report.specs.Counts.{tally_line}
use Rattle.msc_report.specs.Editors.{editor_text}
use Rattle.msc_report.specs.Lines.{finding_text}
use Rattle.msc_report.specs.Styles.{run_text}
use Rattle.msc_diagram.specs.Checks.{with_options}
use Rattle.msc_diagram.specs.Closing.{closing_text}
use Rattle.msc_diagram.specs.Counts.{chooses, counts_text, diagram_end, place_counts, AreCountedIn, AreCountsOf}
use Rattle.msc_diagram.specs.Full.{AreFullTexts}
use Rattle.msc_diagram.specs.Places.{places_in}
use Rattle.msc_diagram.specs.Scenarios.{cases_text, counting_of, diagram_head, passed_of, AreCases, AreTold, Case, IsCase, TextsOf}
use Rattle.msc_diagram.specs.Stale.{each_stale, stale_editor, stale_line, stale_marks, stale_shown, uses}
use Rattle.msc_diagram.specs.declared.check.ScenarioCheck.{ScenarioCheck}
use Rattle.msc_diagram.specs.declared.judging.DiagramFormat.{DiagramFormat}
use Rattle.msc_diagram.specs.declared.judging.DiagramFormat.TheVariants.{Lines, Count, Editor, Full}
use Rattle.msc_diagram.specs.declared.judging.Judged.{Judged}
use Rattle.msc_diagram.specs.declared.numbers.PlaceCounts.{PlaceCounts}
use Rattle.msc_diagram.specs.declared.place.EventPlace.{EventPlace}
use Rattle.msc_diagram.specs.declared.scenario.Scenario.{Scenario}

-- the texts of lines, with the places of races and with runs in words where that is asked for
abbrev pub lines_of : Bool → Scenario → Texts
lines_of words s = record {
  heading = λ h. [];
  run = run_text words s.chart;
  finding = finding_text (Some s.event_positions) s.chart;
  end = λ stale totals. [];
}

-- the texts of lines for editors
abbrev pub editors_of : Scenario → Texts
editors_of s = record { heading = λ h. []; run = λ run. []; finding = λ f line. editor_text s.event_positions s.chart f; end = λ stale totals. [] }

-- what is asked, for a form: a count is of the closest races, and of no race by itself; lines for
-- editors tell the kind of each race, and show no run; people read of the closest races alone
abbrev pub asked : DiagramFormat → ScenarioCheck → ScenarioCheck
asked (Lines diagram_style) k = k
asked (Count file) k = with_options k (counted k.options.allowed)
asked Editor k = with_options k (for_editors k.options)
asked (Full shown) k = with_options k (for_people k.options)

-- so many places of races, and so many of the closest of those that count
abbrev pub tallied : Queues → ℕ → ℕ → Heading
tallied queues races closest =
    record { queues = queues; races = races; left_out = None; accepted = None; counting = closest; closest = Some closest }

-- what is written below so many scenarios, if they have so many places of races and these stale marks,
-- and so many of them pass
abbrev pub bottom_text : DiagramFormat → ScenarioCheck → ℕ → PlaceCounts → List ℕ → ℕ → List ℕ
bottom_text (Lines diagram_style) k count counts stale passed =
    diagram_end diagram_style.drawn counts (each_stale k.marks stale_line stale) passed
bottom_text (Count file) k count counts stale passed = tally_line file.now (tallied k.queues counts.races counts.listed)
bottom_text Editor k count counts stale passed = each_stale k.marks stale_editor stale
bottom_text (Full shown) k count counts stale passed =
    each_stale k.marks (stale_shown shown) stale ++ closing_text shown k.marks counts (length stale) k.options.most count passed

-- how many places marks accept, if the form needs it
abbrev pub accepted_in : DiagramFormat → PlaceCounts → Option ℕ
accepted_in (Lines diagram_style) counts = counts.accepted
accepted_in (Count file) counts = counts.accepted
accepted_in Editor counts = None
accepted_in (Full shown) counts = counts.accepted

-- what was found: how many places are listed, how many marks accept, and how many marks are stale
abbrev pub judged_of : DiagramFormat → PlaceCounts → List ℕ → Judged
judged_of form counts stale = record { listed = counts.listed; accepted = accepted_in form counts; stale = length stale }

-- These are the texts of the new races of a scenario under an architecture, of so many scenarios: by
-- its number, the number of the first race, and at each place in how many scenarios a race counts.
-- A count has no texts.
abbrev pub AreTextsIn : DiagramFormat → Queues → ℕ → (EventPlace × EventPlace → ℕ) → TextsOf
AreTextsIn (Lines diagram_style) queues count counted i first new s texts = texts ≡ lines_of diagram_style.words s
AreTextsIn (Count file) queues count counted i first new s texts = Unit {0}
AreTextsIn Editor queues count counted i first new s texts = texts ≡ editors_of s
AreTextsIn (Full shown) queues count counted i first new s texts =
    AreFullTexts shown count queues i first (map (λ p. counted (places_in s p)) new) s texts

-- the numbers of scenarios in which races count, if the form tells them
abbrev pub AreCounted : DiagramFormat → List Scenario → ScenarioCheck → (EventPlace × EventPlace → ℕ) → Type 0
AreCounted (Lines diagram_style) scenarios k counted = Unit {0}
AreCounted (Count file) scenarios k counted = Unit {0}
AreCounted Editor scenarios k counted = Unit {0}
AreCounted (Full shown) scenarios k counted = AreCountedIn scenarios (asked (Full shown) k) counted

-- what is written above and of these scenarios below the first lines, if the diagram has so many, and
-- so many places of races
abbrev pub told_so_far : DiagramFormat → List ℕ → ScenarioCheck → ℕ → PlaceCounts → List Case → List ℕ
told_so_far (Lines diagram_style) top k count counts cases =
    (diagram_head top count ++ counts_text k counts) ++ cases_text true k 1 [] cases
told_so_far (Count file) top k count counts cases = []
told_so_far Editor top k count counts cases = cases_text false (asked Editor k) 1 [] cases
told_so_far (Full shown) top k count counts cases = cases_text false (asked (Full shown) k) 1 [] cases

-- What is printed of scenarios, and how many places of races are listed and how many marks are stale.
pub record JudgesScenarios (top : List ℕ) (scenarios : List Scenario) (k : ScenarioCheck) (form : DiagramFormat) (judged : Judged) (printed : List ℕ) : Type 0 where
  pub cases : List Case
  pub are : AreCases (asked form k) scenarios cases
  pub counted : EventPlace × EventPlace → ℕ
  pub are_counted : AreCounted form scenarios k counted
  pub told : AreTold (AreTextsIn form k.queues (length scenarios) counted) (asked form k) 1 [] cases
  pub answered : judged ≡ judged_of form (place_counts (asked form k) cases) (stale_marks (asked form k) cases)
  pub text : printed
      ≡ told_so_far form top k (length scenarios) (place_counts (asked form k) cases) cases
      ++ bottom_text form k (length scenarios) (place_counts (asked form k) cases) (stale_marks (asked form k) cases) (passed_of (asked form k) cases)

-- the numbers that stand above the scenarios, if some do: in lines, with options that choose among
-- the races
abbrev pub AreCountsAbove : DiagramFormat → List Scenario → ScenarioCheck → PlaceCounts → Type 0
AreCountsAbove (Lines diagram_style) scenarios k counts =
    (chooses k ≡ true) → (stale : List ℕ) × AreCountsOf scenarios k counts stale
AreCountsAbove (Count file) scenarios k counts = Unit {0}
AreCountsAbove Editor scenarios k counts = Unit {0}
AreCountsAbove (Full shown) scenarios k counts = Unit {0}

-- What is printed above and of the first of the scenarios: with what is printed of all, it begins. What
-- is printed of stale marks, behind all of them, counts as theirs.
pub record BeginsScenarios (top : List ℕ) (scenarios : List Scenario) (k : ScenarioCheck) (form : DiagramFormat) (printed : List ℕ) : Type 0 where
  pub counts : PlaceCounts
  pub above : AreCountsAbove form scenarios k counts
  pub first : ℕ
  pub cases : List Case
  pub are : AreCases (asked form k) (take first scenarios) cases
  pub counted : EventPlace × EventPlace → ℕ
  pub are_counted : AreCounted form scenarios k counted
  pub told : AreTold (AreTextsIn form k.queues (length scenarios) counted) (asked form k) 1 [] cases
  pub text : printed ≡ told_so_far form top k (length scenarios) counts cases

-- An answer is told: what is printed of all went behind the known bytes of a writer; or memory ran
-- out, and the writer has had no call or has a beginning of what is printed of the first scenarios;
-- or the writer failed.
abbrev pub TellsScenarios : {W : Type 0} → (W → Option (List ℕ)) → (Judged → List ℕ → Type 0) → (List ℕ → Type 0) → Result Judged WriteFault → W → W → Type 0
TellsScenarios contents says begins (Ok judged) old new =
    (printed : List ℕ) × says judged printed × Appends (contents old) (contents new) printed
TellsScenarios contents says begins (Err Memory) old new =
    (new ≡ old) ⊎ ((printed : List ℕ) × begins printed × WritesBeginning (contents old) (contents new) printed)
TellsScenarios contents says begins (Err Device) old new = Unit {0}

-- no race of a scenario counts
abbrev pub none_counts_in : ScenarioCheck → Case → Bool
none_counts_in k c = nat_eq (length (counting_of k c)) 0

-- Whether no race of a scenario counts, by what is known of it, and which of these marks accept none of
-- its races.
abbrev pub PassesCase : Scenario → ScenarioCheck → List ℕ → List ℕ → Bool → Type 0
PassesCase s k old new none =
    (c : Case) × (c.scenario ≡ s) × IsCase k c × (none ≡ none_counts_in k c) × (new ≡ filter (λ n. not (uses k c n)) old)

-- none of all scenarios has a race that counts
pub record NoneCounts (scenarios : List Scenario) (k : ScenarioCheck) (cases : List Case) : Type 0 where
  pub are : AreCases k scenarios cases
  pub none : All (λ c. none_counts_in k c ≡ true) cases

-- Whether no race of any scenario counts and no mark is stale: so it is with all; or some race of a
-- scenario counts, or of all none does and a mark is stale.
abbrev pub PassesScenarios : List Scenario → ScenarioCheck → Bool → Type 0
PassesScenarios scenarios k true =
    (cases : List Case) × NoneCounts scenarios k cases × (length (stale_marks k cases) ≡ 0)
PassesScenarios scenarios k false =
    ((c : Case) × Occurs scenarios c.scenario × IsCase k c × (none_counts_in k c ≡ false))
    ⊎ ((cases : List Case) × NoneCounts scenarios k cases × (0 < length (stale_marks k cases)))

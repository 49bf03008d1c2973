-- What is written of the races of a diagram's scenarios. This project's own format.
use Rattle.std.specs.Prelude.{◌≡◌, ℕ, ◌+◌, Bool, cond, List, [], ◌∷◌, ◌++◌, Option, None, Some, codes, count_by, length, map, nat_eq}
use Rattle.std.specs.Fmt.{decimal}
use Rattle.std.specs.List.{flat_map, All}
use Rattle.msc_chart.specs.declared.queue.Queues.{Queues}
use Rattle.msc_chart.specs.Drawings.{Drawing, IsAccepted}
use Rattle.msc_order.specs.Tables.{Table}
use Rattle.msc_race.specs.Views.{races_of, wiring_of}
use Rattle.msc_race.specs.Wired.{enforced_chart, EnforcedChart, IsEnforced}
use Rattle.msc_reason.specs.Counting.{counting, listed, AreCauses}
use Rattle.msc_reason.specs.LeftOut.{of_kinds}
use Rattle.msc_reason.specs.Marked.{cause_in}
use Rattle.msc_reason.specs.declared.left_out.LeftOut.{LeftOut}
use Rattle.msc_judge.specs.Findings.{AreShown, Texts}
use Rattle.msc_judge.specs.Telling.{race_text, told_from}
use Rattle.msc_report.specs.Texts.{text_line}
use Rattle.msc_report.specs.Links.{queues_text}
use Rattle.msc_report.specs.Verdicts.{queues_line}
use Rattle.msc_diagram.specs.Checks.{IsLeft}
use Rattle.msc_diagram.specs.Places.{above_with, fresh}
use Rattle.msc_diagram.specs.declared.check.ScenarioCheck.{ScenarioCheck}
use Rattle.msc_diagram.specs.declared.place.EventPlace.{EventPlace}
use Rattle.msc_diagram.specs.declared.scenario.Scenario.{Scenario}

-- what is known of a scenario: an order of its chart's events, what is left out of its races, of each
-- two events the run that shows them, and the texts of its races
pub record Case : Type 0 where
  pub scenario : Scenario
  pub order : Table
  pub left : LeftOut
  pub runs : ℕ × ℕ → List ℕ
  pub texts : Texts

-- its chart under the architecture of a check
abbrev pub judged_in : ScenarioCheck → Case → EnforcedChart
judged_in k c = enforced_chart c.scenario.chart k.queues c.order

-- it is what they are for a check: the enforced order of a chart, what each race lacks by it, what is
-- left out, and the runs
pub record IsCase (k : ScenarioCheck) (c : Case) : Type 0 where
  pub accepted : IsAccepted c.scenario.chart
  pub enforced : IsEnforced (judged_in k c)
  pub causes : AreCauses (judged_in k c) (cause_in (judged_in k c))
  pub left_is : IsLeft k c.scenario (races_of (judged_in k c)) c.left
  pub shown : AreShown k.options.short (wiring_of (judged_in k c)) c.runs

-- what is known of these scenarios, each by each
pub record AreCases (k : ScenarioCheck) (scenarios : List Scenario) (cases : List Case) : Type 0 where
  pub each : map (λ c. c.scenario) cases ≡ scenarios
  pub all : All (IsCase k) cases

-- the races of a scenario that are asked for
abbrev pub asked_of : ScenarioCheck → Case → List (ℕ × ℕ)
asked_of k c = let e = judged_in k c in listed e c.left k.options.closest (cause_in e)

-- all races of a scenario
abbrev pub all_of : ScenarioCheck → Case → List (ℕ × ℕ)
all_of k c = races_of (judged_in k c)

-- those of kinds that are not left out
abbrev pub named_of : ScenarioCheck → Case → List (ℕ × ℕ)
named_of k c = let e = judged_in k c in counting e (of_kinds k.options.allowed) (cause_in e)

-- the races of a scenario that count: of these, those that no mark accepts
abbrev pub counting_of : ScenarioCheck → Case → List (ℕ × ℕ)
counting_of k c = let e = judged_in k c in counting e c.left (cause_in e)

-- the places of the races of scenarios that are listed, of those that these are: of each two places
-- once
abbrev pub places_from : (Case → List (ℕ × ℕ)) → List (EventPlace × EventPlace) → List Case → List (EventPlace × EventPlace)
places_from pairs above [] = above
places_from pairs above (c ∷ cases) = places_from pairs (above_with c.scenario above (pairs c)) cases

-- the choices of a scenario, where it has some
abbrev pub choices_text : List ℕ → List ℕ
choices_text [] = []
choices_text (x ∷ choices) = codes " choose " ++ (decimal x ++ flat_map (λ y. codes "," ++ decimal y) choices)

-- what stands above the first race of a scenario that is listed: its number, its choices, and the
-- number of all its races
abbrev pub scenario_head : ℕ → List ℕ → ℕ → List ℕ
scenario_head i choices races =
    (codes "scenario " ++ (decimal i ++ text_line (choices_text choices))) ++ (codes "races " ++ text_line (decimal races))

-- the same of a scenario by its number, where heads are told
abbrev pub head_text : Option ℕ → List ℕ → ℕ → List ℕ
head_text None choices races = []
head_text (Some i) choices races = scenario_head i choices races

-- what is written of these races of a scenario: nothing where there are none, else the head and the
-- first that are told, behind so many
abbrev pub told_text : (ℕ → ℕ × ℕ → List ℕ) → List ℕ → ℕ → ℕ → List (ℕ × ℕ) → List ℕ
told_text text head most n [] = []
told_text text head most n (p ∷ pairs) = head ++ told_from text most n (p ∷ pairs)

-- the races of a scenario that are asked for and whose places none of these races has
abbrev pub new_in : ScenarioCheck → List (EventPlace × EventPlace) → Case → List (ℕ × ℕ)
new_in k above c = fresh c.scenario above (asked_of k c)

-- what is written of a scenario by its number, with a head or without, below races of these places
abbrev pub case_text : Bool → ScenarioCheck → ℕ → List (EventPlace × EventPlace) → Case → List ℕ
case_text heads k i above c =
    told_text (race_text c.texts (judged_in k c) k.options c.runs)
    (head_text (cond heads (Some i) None) c.scenario.choices (length (all_of k c)))
    k.options.most (length above) (new_in k above c)

-- what is written of these scenarios, numbered from here on
abbrev pub cases_text : Bool → ScenarioCheck → ℕ → List (EventPlace × EventPlace) → List Case → List ℕ
cases_text heads k i above [] = []
cases_text heads k i above (c ∷ cases) =
    case_text heads k i above c
    ++ cases_text heads k (i + 1) (above_with c.scenario above (asked_of k c)) cases

-- texts of the races of a scenario, of which this is known: the number of the scenario, that of the
-- first of these races, and they
abbrev pub TextsOf : Type 1
TextsOf = ℕ → ℕ → List (ℕ × ℕ) → Scenario → Texts → Type 0

-- texts are known of races, if there are some
abbrev pub AreTextsIf : TextsOf → ℕ → ℕ → List (ℕ × ℕ) → Scenario → Texts → Type 0
AreTextsIf are i first [] s texts = Unit {0}
AreTextsIf are i first (p ∷ pairs) s texts = are i first (p ∷ pairs) s texts

-- the texts of these scenarios, numbered from here on and below races of these places, are those of
-- their new races
abbrev pub AreTold : TextsOf → ScenarioCheck → ℕ → List (EventPlace × EventPlace) → List Case → Type 0
AreTold are k i above [] = Unit {0}
AreTold are k i above (c ∷ cases) =
    AreTextsIf are i (length above) (new_in k above c) c.scenario c.texts
    × AreTold are k (i + 1) (above_with c.scenario above (asked_of k c)) cases

-- how many scenarios have no race that counts
abbrev pub passed_of : ScenarioCheck → List Case → ℕ
passed_of k cases = count_by (λ c. nat_eq (length (counting_of k c)) 0) cases

-- the lines of an architecture, with the names of a chart's instances if there is one
abbrev pub queues_of : Option Drawing → Queues → List ℕ
queues_of None queues = queues_line queues
queues_of (Some d) queues = queues_text d queues

-- the first lines of an answer on a diagram: its name, and the queues
abbrev pub diagram_top : List ℕ → Option Drawing → Queues → List ℕ
diagram_top name first queues = (codes "diagram " ++ text_line name) ++ queues_of first queues

-- the chart of the first of these scenarios
abbrev pub first_chart : List Scenario → Option Drawing
first_chart [] = None
first_chart (s ∷ scenarios) = Some s.chart

-- what stands above all scenarios
abbrev pub diagram_head : List ℕ → ℕ → List ℕ
diagram_head top count = top ++ (codes "scenarios " ++ text_line (decimal count))

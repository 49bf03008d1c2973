-- All scenarios of a text, or one of them, each with its draft and the places of its events, or why
-- there are none.
use Rattle.std.specs.Prelude.{◌≡◌, ℕ, Bool, true, false, not, ◌&&◌, cond, nat_lt, List, [], ◌∷◌, Option, None, Some, Result, Ok, Err, is_ok, option_map}
use Rattle.msc_mermaid.specs.declared.fault.ImportFault.{ImportFault}
use Rattle.msc_mermaid.specs.declared.fault.ImportFault.TheVariants.{TooManyScenarios}
use Rattle.msc_import.specs.declared.importing.DiagramReading.{DiagramReading}
use Rattle.msc_import.specs.declared.importing.Language.{Language}
use Rattle.msc_import.specs.declared.plan.Manner.{Manner}
use Rattle.msc_import.specs.declared.plan.Par.{Par}
use Rattle.msc_import.specs.declared.plan.Par.TheVariants as pars
use Rattle.msc_mermaid.specs.declared.statement.Cross.{Cross}
use Rattle.msc_mermaid.specs.declared.statement.Diagram.{Diagram}
use Rattle.msc_import.specs.declared.whole.ImportingAll.{ImportingAll}
use Rattle.msc_import.specs.declared.drawings.Scenario.{Scenario}
use Rattle.msc_import.specs.declared.whole.Scenarios.{Scenarios}
use Rattle.msc_import.specs.declared.whole.Tried.{Tried}
use Rattle.msc_markdown.specs.Markdowns.{Found, markdown}
use Rattle.msc_scenarios.specs.Choosing.{all_choices}
use Rattle.msc_scenarios.specs.Counting.{scenarios}
use Rattle.msc_import.specs.Drafting.{chart_name}
use Rattle.msc_mermaid.specs.Gives.{◌>>=◌}
use Rattle.msc_import.specs.Drawings.{scenarios_on, AreDrawn, AreFirst}
use Rattle.msc_import.specs.Importing.{Refusal, answered, diagram_from, found_as}

-- what is wanted of a text: in which language it is, of Markdown which diagram, what arrows with a cross
-- are, how scenarios are drawn, the numbers of rounds that each loop goes, the most scenarios that there may
-- be, the choices of the only scenario, if one alone is wanted, and what the name of the charts is made of
pub record WantedAll : Type 0 where
  pub language : Language
  pub fence : Option ℕ
  pub cross : Option Cross
  pub manner : Manner
  pub rounds : List ℕ
  pub limit : ℕ
  pub choose : Option (List ℕ)
  pub name : List ℕ

-- the same as the code has it
abbrev pub wanted_all : ImportingAll → WantedAll
wanted_all x = record {
  language = x.language;
  fence = x.fence;
  cross = x.cross;
  manner = x.manner;
  rounds = x.rounds.now;
  limit = x.limit;
  choose = option_map (λ c. c.now) x.choose;
  name = x.name.now;
}

-- the choices of all scenarios of a diagram, if there are no more than so many
unfoldable pub choices_within : List ℕ → ℕ → Diagram → Result (List (List ℕ)) ImportFault
choices_within rounds limit d =
    cond (nat_lt limit (scenarios rounds d)) (Err (TooManyScenarios limit)) (Ok (all_choices rounds d))

-- the choices of the scenarios that are wanted: of the one with these choices, or of all
abbrev pub choices_by : Option (List ℕ) → List ℕ → ℕ → Diagram → Result (List (List ℕ)) ImportFault
choices_by None rounds limit d = choices_within rounds limit d
choices_by (Some given) rounds limit d = Ok (given ∷ [])

unfoldable pub wanted_choices : WantedAll → Diagram → Result (List (List ℕ)) ImportFault
wanted_choices x d = choices_by x.choose x.rounds x.limit d

-- the scenarios of a diagram that are wanted, in the order of their choices
unfoldable pub all_scenarios : WantedAll → Diagram → Result (List Scenario) ImportFault
all_scenarios x d = wanted_choices x d >>= scenarios_on x.manner x.name d []

-- the same is wanted, but parallel branches are refused that would be drawn one below the other
abbrev pub refusing : WantedAll → WantedAll
refusing x = record {
  language = x.language;
  fence = x.fence;
  cross = x.cross;
  manner = record { own = x.manner.own; par = pars.Refused };
  rounds = x.rounds;
  limit = x.limit;
  choose = x.choose;
  name = x.name;
}

-- parallel branches may be drawn one below the other
abbrev pub may_draw : Par → Bool
may_draw pars.Refused = false
may_draw pars.Drawn = true

-- some are, in a scenario: there would be no scenarios if such branches were refused
abbrev pub draws_branches : WantedAll → Diagram → Bool
draws_branches x d = may_draw x.manner.par && not (is_ok (all_scenarios (refusing x) d))

-- the same, with the name of the charts, and whether parallel branches are drawn one below the other
unfoldable pub all_of : WantedAll → Diagram → Result Scenarios ImportFault
all_of x d = do
  found ← all_scenarios x d
  Ok (record { name = chart_name x.name; list = found; drawn = draws_branches x d })

-- the choices of the scenarios of a diagram that are wanted: each has a draft
pub record AreChoices (x : WantedAll) (d : Diagram) (lists : List (List ℕ)) : Type 0 where
  pub wanted : wanted_choices x d ≡ Ok lists
  pub drawn : AreDrawn (scenarios_on x.manner x.name d [] lists)

-- the same of the choices that were tried, and the first scenarios
abbrev pub IsTried : WantedAll → Diagram → Tried → Type 0
IsTried x d t =
    AreChoices x d t.lists.items × AreFirst x.manner x.name d t.lists.items t.first.items

-- which diagram is wanted of a text, and how it is read
abbrev pub reading_of_all : WantedAll → DiagramReading
reading_of_all x = record { language = x.language; fence = x.fence; cross = x.cross }

-- what is imported of a text that holds this, where all its scenarios are
abbrev pub imported_all_from : WantedAll → Found → Result Scenarios Refusal
imported_all_from x f =
    answered f (all_of x) (diagram_from x.language x.cross x.fence f)

-- what is imported of a text, where all its scenarios are
abbrev pub imported_all : WantedAll → List ℕ → Result Scenarios Refusal
imported_all x text = found_as (imported_all_from x) (markdown text)

-- A scenario that its source keeps, or that was made when it was taken.
use Rattle.msc_diagram.specs.declared.lent.Held.{Held}
use Rattle.msc_diagram.specs.declared.lent.Held.TheVariants.{Kept, Made}
use Rattle.msc_diagram.specs.declared.scenario.Scenario.{Scenario}

-- the scenario, whoever owns it
abbrev pub scenario_in : Held → Scenario
scenario_in (Kept s) = s.now
scenario_in (Made s) = s

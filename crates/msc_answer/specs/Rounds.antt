-- Two rounds of a chart, if they are requested.
use Rattle.std.specs.Prelude.{◌≡◌, Bool, true, false, Option, None, Some, Result, Ok, Err}
use Rattle.msc_chart.specs.Drawings.{Drawing}
use Rattle.msc_chart.specs.Rounds.{IsShort, IsUnrollFault}
use Rattle.msc_chart.specs.declared.fault.UnrollFault.{UnrollFault}
use Rattle.msc_chart.specs.declared.fault.UnrollFault.TheVariants.{TooManyMessages, TooManyActions, Memory}

-- these are two rounds of a chart if they are requested, and none otherwise
abbrev pub AreRounds : Bool → Drawing → Option Drawing → Type 0
AreRounds again d None = again ≡ false
AreRounds again d (Some unrolled) = (again ≡ true) × (unrolled ≡ d) × IsShort d

-- if two rounds are requested, a chart is short enough for them
abbrev pub HasRoom : Bool → Drawing → Type 0
HasRoom again d = again ≡ true → IsShort d

-- they are requested, and this is why they are no chart
abbrev pub LacksRounds : Bool → Drawing → UnrollFault → Type 0
LacksRounds again d fault = (again ≡ true) × IsUnrollFault d fault

-- what making them answers: them, or why they are no chart, or that memory ran out
abbrev pub GivesRounds : Bool → Drawing → Result (Option Drawing) UnrollFault → Type 0
GivesRounds again d (Ok rounds) = AreRounds again d rounds
GivesRounds again d (Err Memory) = Unit {0}
GivesRounds again d (Err TooManyMessages) = LacksRounds again d TooManyMessages
GivesRounds again d (Err TooManyActions) = LacksRounds again d TooManyActions

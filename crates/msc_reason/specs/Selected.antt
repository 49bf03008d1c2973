-- Which races of a chart are asked for, as contracts see it.
use Rattle.std.specs.Prelude.{Bool}
use Rattle.msc_race.specs.Wired.{EnforcedChart}
use Rattle.msc_reason.specs.declared.left_out.LeftOut.{LeftOut}

-- a chart under an architecture, what is left out, and whether the closest races alone are
-- listed
pub record Selected : Type 0 where
  pub judged : EnforcedChart
  pub allowed : LeftOut
  pub closest : Bool

-- these three
abbrev pub selected : EnforcedChart → LeftOut → Bool → Selected
selected judged allowed closest = record { judged = judged; allowed = allowed; closest = closest }

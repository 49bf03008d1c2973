-- What a renderer may rely on of a finding.
use Rattle.std.specs.Prelude.{◌<◌, length, MatchOption}
use Rattle.msc_chart.specs.Drawings.{Drawing}
use Rattle.msc_reason.specs.Named.{NamesCause}
use Rattle.msc_judge.specs.declared.renderer.Finding.{Finding}

-- all numbers that a finding names are those of events
pub record NamesEvents (d : Drawing) (f : Finding) : Type 0 where
  pub first : f.first < length d.events
  pub second : f.second < length d.events
  pub cause : MatchOption f.cause (Unit {0}) (NamesCause d)

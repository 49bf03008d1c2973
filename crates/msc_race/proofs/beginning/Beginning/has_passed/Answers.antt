use Rattle.std.proofs.Common.{◌∙◌}
use Rattle.msc_race.proofs.Making.RowLemmas.{has_common}
use Rattle.msc_race.proofs.beginning.Beginning.has_passed.Goals as goal

pub returns : goal.returns
returns c = rw (c.len.ensures ∙ c.args.self.now.remaining.passed.ok.0) (has_common _ _ _ c.requires.passed)

use Rattle.msc_diagnostic.proofs.PlaceLemmas.{lines_lem}
use Rattle.msc_diagnostic.proofs.laws.lines_lie_between_ends.Goals as goal

pub returns : goal.returns
returns c = lines_lem

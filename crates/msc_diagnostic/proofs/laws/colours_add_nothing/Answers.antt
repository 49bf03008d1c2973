use Rattle.msc_diagnostic.proofs.ColourLemmas.{colours_lem}
use Rattle.msc_diagnostic.proofs.laws.colours_add_nothing.Goals as goal

pub returns : goal.returns
returns c = colours_lem

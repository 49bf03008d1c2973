use Rattle.msc_import.proofs.ArrowLemmas.{arrow_drawn}
use Rattle.msc_import.proofs.laws.arrows_have_their_ends.Goals as goal

pub returns : goal.returns
returns c = λ own names line m. arrow_drawn names line m own

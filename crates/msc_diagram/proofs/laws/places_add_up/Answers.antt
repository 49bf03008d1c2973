use Rattle.msc_diagram.proofs.Adding.{add_up}
use Rattle.msc_diagram.proofs.laws.places_add_up.Goals as goal

pub returns : goal.returns
returns c = add_up

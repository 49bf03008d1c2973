use Rattle.msc_place.proofs.OneBeginning.{begins_once}
use Rattle.msc_place.proofs.laws.each_event_begins_once.Goals as goal

pub returns : goal.returns
returns c = begins_once c.one_reading.ensures

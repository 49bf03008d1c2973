use Rattle.std.proofs.Common.{refl}
use Rattle.msc_parser.proofs.fault.What.words.Goals as goal

pub returns-in-Event : goal.returns-in-Event
returns-in-Event c = rw c.in-Event.is refl

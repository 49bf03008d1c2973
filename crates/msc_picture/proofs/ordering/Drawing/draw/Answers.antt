use Rattle.msc_picture.proofs.DrawnLemmas.{next_may}
use Rattle.msc_picture.proofs.ordering.Drawing.draw.Goals as goal

pub go_on-requires-clause-known : goal.go_on-requires-clause-known
go_on-requires-clause-known c = (next_may c.requires.next).event

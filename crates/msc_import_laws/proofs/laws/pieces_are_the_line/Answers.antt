use Rattle.msc_import_laws.proofs.WholeLines.{whole_line}
use Rattle.msc_import_laws.proofs.laws.pieces_are_the_line.Goals as goal

pub returns : goal.returns
returns c = whole_line

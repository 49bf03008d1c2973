use Rattle.msc_lexer.proofs.Printed.{prints_pieces}
use Rattle.msc_lexer.proofs.laws.prints_pieces.Goals as goal

pub returns : goal.returns
returns c = prints_pieces

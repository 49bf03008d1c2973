use Rattle.std.proofs.Common.{None}
use Rattle.msc_picture.proofs.RowLemmas.{read_back}
use Rattle.msc_picture.proofs.laws.numbers_read_back.Goals as goal

pub returns : goal.returns
returns c = λ events order. read_back events None order

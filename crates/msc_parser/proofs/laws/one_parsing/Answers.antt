use Rattle.msc_parser.proofs.Answering.{one_parsing}
use Rattle.msc_parser.proofs.laws.one_parsing.Goals as goal

pub returns : goal.returns
returns c = one_parsing c.one_reading.ensures

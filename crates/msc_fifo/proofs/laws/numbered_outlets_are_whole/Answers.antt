use Rattle.msc_fifo.proofs.NumberedOutlets.{numbered_whole}
use Rattle.msc_fifo.proofs.laws.numbered_outlets_are_whole.Goals as goal

pub returns : goal.returns
returns c = numbered_whole

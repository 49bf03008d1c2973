use Rattle.msc_fifo.proofs.EndLemmas.{new_ends_whole}
use Rattle.msc_fifo.proofs.making.queue.Goals as goal

pub returns-in-Ok-clause-whole : goal.returns-in-Ok-clause-whole
returns-in-Ok-clause-whole c = new_ends_whole _ _ _ _ c.in-Ok.ensures.inlet c.in-Ok.ensures.outlets

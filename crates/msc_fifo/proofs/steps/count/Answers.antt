use Rattle.std.proofs.Common.{arith}
use Rattle.msc_fifo.proofs.InletSteps.{settles_keep}
use Rattle.msc_fifo.proofs.steps.count.Goals as goal

pub load-requires : goal.load-requires
load-requires c = let seat = c.requires.seat in (seat.0, omega (arith, seat.2), settles_keep _ _ _ _ c.requires.inlet)

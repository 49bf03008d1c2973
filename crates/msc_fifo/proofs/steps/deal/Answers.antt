use Rattle.std.proofs.Common.{arith}
use Rattle.msc_fifo.proofs.InletSteps.{splits_keep}
use Rattle.msc_fifo.proofs.steps.deal.Goals as goal

pub split_seat-requires : goal.split_seat-requires
split_seat-requires g c = let seat = c.requires.seat in (seat.0, omega (arith, seat.2), splits_keep _ _ _ _ c.requires.inlet.0 c.requires.inlet.1 c.requires.enough)

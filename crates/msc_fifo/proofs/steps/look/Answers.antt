use Rattle.std.proofs.Common.{◌∙◌, sym, arith, ap, ◌+◌, ℕ}
use Rattle.msc_fifo.proofs.InletSteps.{looks_keep}
use Rattle.msc_fifo.proofs.steps.look.Goals as goal

pub load-requires : goal.load-requires
load-requires c = let seat = c.requires.seat in let next = c.requires.next in
    (seat.0, omega (arith, seat.2, c.requires.fits), looks_keep _ _ _ _ _ c.requires.inlet.0 (ap (λ (n : ℕ). n + n + 2) (sym next.0)) (next.1 ∙ sym next.0) (omega (arith, c.requires.inlet.1, c.requires.fits, next.0)))

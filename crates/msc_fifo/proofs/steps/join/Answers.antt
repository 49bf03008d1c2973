use Rattle.std.proofs.Common.{ap, arith}
use Rattle.msc_fifo.specs.declared.rule.TicketView.{TicketView}
use Rattle.msc_fifo.proofs.InletSteps.{joins_keep}
use Rattle.msc_fifo.proofs.steps.join.Goals as goal

pub join_seat-requires : goal.join_seat-requires
join_seat-requires c = let seat = c.requires.seat in let own = c.requires.own in let x = c.requires.outlet in
    (seat.0, own.0, own.1, omega (arith, seat.2), joins_keep _ _ _ _ _ x.1 c.requires.inlet (ap (λ (v : TicketView). v.senders) x.2))

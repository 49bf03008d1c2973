use Rattle.std.proofs.Common.{◌≡◌, vec_len, vec_capacity}
use Rattle.msc_fifo.specs.Views.{IsTicketOf, knows}
use Rattle.msc_fifo.specs.Settling.{AreShownIn}
use Rattle.msc_fifo.proofs.places.read_places.Given as goal

abbrev pub invariant-loop-k : goal.invariant-loop-k
invariant-loop-k l = IsTicketOf l.row l.ticket
    × (knows l.ticket ≡ knows l.initial.ticket)
    × (vec_len l.places ≡ l.k)
    × (vec_capacity l.places ≡ vec_capacity l.initial.places)
    × AreShownIn (knows l.initial.ticket).senders l.places.items

use Rattle.std.proofs.Common.{◌≡◌, ◌+◌, [], sum, take, vec_capacity, length}
use Rattle.std.specs.Arc.{arc_value}
use Rattle.msc_fifo.specs.Ends.{new_outlets}
use Rattle.msc_fifo.specs.Views.{receives, IsTicketOf, knows, queue_id}
use Rattle.msc_fifo.proofs.making.outlets.Given as goal

abbrev pub ghosts-outlet : goal.ghosts-outlet
ghosts-outlet a = record { room = a.quota + 1 }

abbrev pub invariant-loop-quota : goal.invariant-loop-quota
invariant-loop-quota l = IsTicketOf (arc_value l.row) l.ticket
    × (knows l.ticket ≡ receives (arc_value l.row).shared.key (knows l.ticket).room l.number [] [])
    × (l.number ≡ l.quota-index)
    × (l.outlets.items ≡ new_outlets (queue_id (arc_value l.row)) 0 (take l.quota-index l.quotas))
    × (vec_capacity l.outlets ≡ length l.quotas)
    × ((knows l.ticket).room + l.number + sum (take l.quota-index l.quotas) ≡ sum l.quotas + length l.quotas)

use Rattle.std.proofs.Common.{sym, ◌∙◌, subst, arith}
use Rattle.msc_fifo.specs.declared.rule.TicketView.{TicketView}
use Rattle.msc_fifo.specs.Views.{knows}
use Rattle.msc_fifo.specs.Moves.{IsClaimOf}
use Rattle.msc_fifo.specs.Settling.{AreShownIn}
use Rattle.msc_fifo.proofs.PlaceLemmas.{shown_more}
use Rattle.msc_fifo.proofs.places.read_places.Goals as goal

pub loop-k-preserved : goal.loop-k-preserved
loop-k-preserved c = let i = c.loop-k.invariant in let push = c.push_reserved.ensures in let len = push.len in let senders = (knows c.args.ticket.now).senders in (
  c.read.ensures.seat,
  c.read.ensures.same ∙ i.1,
  omega (arith, i.2),
  push.capacity ∙ i.3,
  subst (AreShownIn senders) (sym push.items) (shown_more senders c.loop-k.places.items c.read.result c.loop-k.k (omega (arith, i.2, c.loop-k.places.ok.0)) i.4
      (λ k of at. c.read.ensures.place k (subst (λ (v : TicketView). IsClaimOf k v.senders) (sym i.1) of) at)),
)

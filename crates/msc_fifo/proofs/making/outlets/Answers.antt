use Rattle.std.proofs.Common.{ℕ, ◌+◌, [], ap, ◌∙◌, sym, arith, length}
use Rattle.std.specs.Arc.{arc_value}
use Rattle.msc_fifo.specs.Views.{knows, receives, queue_id}
use Rattle.msc_fifo.proofs.EndLemmas.{new_outlets-front, next_outlet, room_left}
use Rattle.msc_fifo.proofs.making.outlets.Goals as goal

pub push_reserved-requires : goal.push_reserved-requires
push_reserved-requires c = let i = c.loop-quota.invariant in let lt = c.loop-quota-test.true in
    let len = ap length i.3 ∙ new_outlets-front (queue_id (arc_value c.args.row.now)) c.args.quotas.now c.loop-quota.quota-index lt in omega (arith, c.loop-quota.outlets.ok.0, i.4)

pub loop-quota-preserved : goal.loop-quota-preserved
loop-quota-preserved c = let i = c.loop-quota.invariant in let lt = c.loop-quota-test.true in
    let view = c.in_ok-outlet.ensures.view in (
      c.in_ok-outlet.ensures.seat,
      view ∙ (λ j. receives (arc_value c.args.row.now).shared.key (ap (λ x. x.room) (sym view) j) (c.loop-quota.number + 1) [] []),
      ap (λ (k : ℕ). k + 1) i.2,
      next_outlet (queue_id (arc_value c.args.row.now)) c.args.quotas.now c.loop-quota.quota-index c.loop-quota.number _ c.loop-quota.outlets.items c.push_reserved.new.self.items c.in_ok-outlet.field-0 lt i.2 i.3 c.in_ok-outlet.ensures.outlet c.push_reserved.ensures.items,
      c.push_reserved.ensures.capacity ∙ i.4,
      room_left c.args.quotas.now c.loop-quota.quota-index c.loop-quota.number _ (knows c.loop-quota.ticket).room _ lt (ap (λ x. x.room) view) i.2 i.5,
    )

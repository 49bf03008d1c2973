use Rattle.std.proofs.Common.{ℕ, length}
use Rattle.msc_chart.specs.Orders.{queue_bound}
use Rattle.msc_ready.specs.Held.{wiring_of}
use Rattle.msc_ready.proofs.Begun.Marks.{none_marked}
use Rattle.msc_ready.proofs.Begun.Heads.{none_ahead}
use Rattle.msc_ready.proofs.beginning.Beginning.start.Goals as goal

pub returns-clause-held : goal.returns-clause-held
returns-clause-held c =
    let r = c.args.ready.now in
    let n : ℕ = length r.chart.events in
    let done = c.in_ok-vec.ensures.items_if_clones_equal (λ y e. e) in
    let heads = c.in_ok-vec-2.ensures.items_if_clones_equal (λ y e. e) in
    let count = rw (c.wiring.ensures.chart, c.wiring.ensures.queues) at c.queue_count-queues.ensures.value in
    rw c.new.ensures.items (record {
      is_run = tt;
      marks = none_marked n _ _ c.events-events.ensures done;
      lines = c.in_ok-first_events.ensures;
      queues = none_ahead (wiring_of r) (queue_bound r.queues r.chart) _ _ _ count c.events-events.ensures heads;
    })

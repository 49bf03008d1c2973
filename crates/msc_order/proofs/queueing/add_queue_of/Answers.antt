use Rattle.std.proofs.Common.{ℕ, refl}
use Rattle.msc_chart.specs.Orders.{queue}
use Rattle.msc_chart.proofs.Drawn.{output_parts, output_not_local}
use Rattle.msc_chart.specs.Wirings.{size, wired_by}
use Rattle.bit_rows.specs.Tables.{cell}
use Rattle.bit_rows.specs.Rows.{has}
use Rattle.bit_rows.proofs.Cells.{row_fits}
use Rattle.msc_order.proofs.Between.{seen_next}
use Rattle.msc_order.proofs.Taking.{left_seen, queue_added}
use Rattle.msc_order.proofs.queueing.add_queue_of.Goals as goal

pub queue-q-requires : goal.queue-q-requires
queue-q-requires c = record {
  known = (output_parts c.args.wiring.now.chart.now.events c.args.s c.requires.output).0;
  message = output_not_local c.args.wiring.now.chart.now.events c.args.s c.requires.output;
}

pub common-requires-clause-row : goal.common-requires-clause-row
common-requires-clause-row c =
    let n : ℕ = size c.args.wiring.now in
    rw c.events-events.ensures.number (row_fits n c.args.words.now n c.args.s c.requires.square (output_parts c.args.wiring.now.chart.now.events c.args.s c.requires.output).0)

pub renew-requires-clause-seen : goal.renew-requires-clause-seen
renew-requires-clause-seen c =
    let w = c.args.wiring.now in
    left_seen (wired_by w) (cell (size w) c.args.words.now) (cell (size w) c.args.masks.now) c.args.s (has c.common.new.left) c.requires.output c.requires.between c.requires.seen
    (rw (c.events-events.ensures.number, c.queue-q.ensures) at c.common.ensures)

pub other_end-input-requires : goal.other_end-input-requires
other_end-input-requires c = (output_parts c.args.wiring.now.chart.now.events c.args.s c.requires.output).0

pub take_row-requires-clause-row : goal.take_row-requires-clause-row
take_row-requires-clause-row c =
    let n : ℕ = size c.args.wiring.now in
    rw c.events-events.ensures.number (row_fits n c.args.words.now n c.other_end-input.result c.requires.square c.other_end-input.ensures.known)

pub put-requires-clause-column : goal.put-requires-clause-column
put-requires-clause-column c = rw c.events-events.ensures.number (output_parts c.args.wiring.now.chart.now.events c.args.s c.requires.output).0

pub returns-clause-between : goal.returns-clause-between
returns-clause-between c =
    let w = c.args.wiring.now in
    let wires = c.ends_share_queues.ensures w.queues w.chart.now c.facts.ensures in
    (queue_added (wired_by w) wires (cell (size w) c.args.words.now) (cell (size w) c.args.masks.now) (cell (size w) c.take_row.new.words) c.args.s
    (has c.common.new.left) (has c.renew.new.taken) c.requires.output c.requires.between c.requires.seen c.requires.later
    (rw (c.events-events.ensures.number, c.queue-q.ensures) at c.common.ensures) c.renew.ensures.taken
    (rw (c.events-events.ensures.number, c.other_end-input.ensures.value) at c.take_row.ensures)).0

pub returns-clause-seen : goal.returns-clause-seen
returns-clause-seen c =
    let w = c.args.wiring.now in
    let wires = c.ends_share_queues.ensures w.queues w.chart.now c.facts.ensures in
    let added = queue_added (wired_by w) wires (cell (size w) c.args.words.now) (cell (size w) c.args.masks.now) (cell (size w) c.take_row.new.words) c.args.s
    (has c.common.new.left) (has c.renew.new.taken) c.requires.output c.requires.between c.requires.seen c.requires.later
    (rw (c.events-events.ensures.number, c.queue-q.ensures) at c.common.ensures) c.renew.ensures.taken
    (rw (c.events-events.ensures.number, c.other_end-input.ensures.value) at c.take_row.ensures) in
    seen_next (wired_by w) (cell (size w) c.args.words.now) (cell (size w) c.take_row.new.words) (cell (size w) c.args.masks.now) (cell (size w) c.put.new.words)
    (queue (wired_by w) c.args.s) c.args.s (record { output = c.requires.output; one_queue = refl }) added.1 added.2 c.requires.seen
    (rw (c.events-events.ensures.number, c.queue-q.ensures) at c.put.ensures)

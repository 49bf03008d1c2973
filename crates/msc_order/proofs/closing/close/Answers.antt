use Rattle.std.proofs.Common.{length, arith}
use Rattle.bit_rows.specs.Rows.{has}
use Rattle.bit_rows.specs.Tables.{cell}
use Rattle.bit_rows.proofs.Bits.{words_enough}
use Rattle.msc_order.proofs.LineRows.{begun_none}
use Rattle.msc_order.proofs.closing.close.Goals as goal

pub add_rows-requires-clause-marks : goal.add_rows-requires-clause-marks
add_rows-requires-clause-marks c =
    let enough = words_enough c.events.result in
    omega (arith, enough, c.deref_mut.ensures.len, c.in_ok-begun.ensures.words, c.events.ensures.number)

pub add_rows-requires-clause-begun : goal.add_rows-requires-clause-begun
add_rows-requires-clause-begun c =
    let events = c.args.chart.now.events in
    begun_none events c.args.inputs (cell (length events) c.args.words.now) (has c.deref_mut.result.now) c.requires.blank
    (λ x. rw c.deref_mut.ensures.value (c.in_ok-begun.ensures.none x))

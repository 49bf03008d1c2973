use Rattle.std.proofs.Common.{length, true, refl, sym, ◌∙◌}
use Rattle.msc_chart.specs.Charts.Visual.{seen, passed}
use Rattle.msc_chart.specs.Charts.{partner}
use Rattle.bit_rows.specs.Rows.{has}
use Rattle.bit_rows.specs.Tables.{cell}
use Rattle.msc_order.proofs.Leading.{row_kept}
use Rattle.msc_order.proofs.LineRows.{begun_message, input_row, output_row}
use Rattle.msc_order.proofs.closing.add_row.Goals as goal

pub begin_segment-requires-clause-later : goal.begin_segment-requires-clause-later
begin_segment-requires-clause-later c f b = c.requires.later f (seen b)

pub returns-then-is_output-clause-begun : goal.returns-then-is_output-clause-begun
returns-then-is_output-clause-begun c =
    let events = c.args.chart.now.events in
    begun_message events c.args.inputs (cell (length events) c.begin_segment.new.words) (cell (length events) c.take_in.new.words) (has c.begin_segment.new.begun)
    c.args.e c.begin_segment.ensures.begun c.begin_segment.ensures.here (sym c.is_output.ensures ∙ c.if-is_output.true)
    (rw (c.events-events.ensures.number, c.other_end.ensures.value) at c.take_in.ensures)

pub returns-then-is_output-clause-kept : goal.returns-then-is_output-clause-kept
returns-then-is_output-clause-kept c x y h =
    let events = c.args.chart.now.events in
    let put = rw c.events-events.ensures.number at c.take_in.ensures in
    put x y ∙ row_kept (cell (length events) c.begin_segment.new.words) c.args.e c.other_end.result true x y (c.begin_segment.ensures.kept x y h)

pub returns-then-is_output-clause-row : goal.returns-then-is_output-clause-row
returns-then-is_output-clause-row c =
    let events = c.args.chart.now.events in
    let o = sym c.is_output.ensures ∙ c.if-is_output.true in
    output_row events c.args.inputs (cell (length events) c.begin_segment.new.words) (cell (length events) c.take_in.new.words) (has c.begin_segment.new.begun)
    c.args.e c.begin_segment.ensures.begun c.begin_segment.ensures.here o (rw (c.events-events.ensures.number, c.other_end.ensures.value) at c.take_in.ensures)
    (λ y h. c.begin_segment.ensures.kept (partner events c.args.e) y (c.requires.later (partner events c.args.e) (passed o refl) y h))

pub returns-else-is_output-clause-row : goal.returns-else-is_output-clause-row
returns-else-is_output-clause-row c =
    let events = c.args.chart.now.events in
    input_row events c.args.inputs (cell (length events) c.begin_segment.new.words) (has c.begin_segment.new.begun) c.args.e
    c.begin_segment.ensures.begun c.begin_segment.ensures.here (sym c.is_output.ensures ∙ c.if-is_output.false)

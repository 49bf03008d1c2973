use Rattle.std.proofs.Common.{◌++◌, arith}
use Rattle.msc_diagnostic.specs.Blocks.{no_window, rows_of}
use Rattle.msc_diagnostic.proofs.RowsLemmas.{all_rows, more_rows}
use Rattle.msc_diagnostic.proofs.frame.Frame.print_rows_of.Goals as goal

pub loop-i-preserved : goal.loop-i-preserved
loop-i-preserved c =
    let l = c.loop-i in let source = c.args.source.now in
    more_rows c.args.self.now source.ends source.text.now c.args.marks.now l.i c.index-marks-i.result l.window c.in_ok-next.next
    (c.args.out.now.items ++ rows_of c.args.self.now source.ends source.text.now no_window c.args.marks.now)
    l.out.items c.print_rows_before.new.out.items c.print_signs_row.new.out.items
    c.loop-i-test.true c.index-marks-i.is c.in_ok-next.ensures l.invariant c.in_ok-print_rows_before.ensures c.in_ok-print_signs_row.ensures

pub returns : goal.returns
returns c =
    let l = c.loop-i in let source = c.args.source.now in
    all_rows c.args.self.now source.ends source.text.now c.args.marks.now l.i l.window _ l.out.items (omega (arith, c.loop-i-test.false)) l.invariant

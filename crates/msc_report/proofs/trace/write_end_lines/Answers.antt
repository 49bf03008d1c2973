use Rattle.std.proofs.Common.{◌<◌, length, arith}
use Rattle.msc_ending.specs.declared.end.End.TheVariants.{Finished}
use Rattle.msc_print.proofs.KnownBytes.{Appends-append}
use Rattle.msc_report.proofs.EndLines.{next_line}
use Rattle.msc_report.proofs.trace.write_end_lines.Goals as goal

-- src/trace.rt:50:5
pub loop-i-preserved : goal.loop-i-preserved
loop-i-preserved g c =
    let ends = c.args.ends.now in
    let within : c.loop-i.i < length ends = omega (arith, c.loop-i-test.true) in
    rw (next_line c.args.chart.now c.loop-i.i ends Finished within)
    (Appends-append _ _ _ _ _ c.loop-i.invariant c.in_ok-write_end_line.ensures)

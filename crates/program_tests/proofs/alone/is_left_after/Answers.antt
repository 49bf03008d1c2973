use Rattle.std.proofs.Common.{arith}
use Rattle.msc_instance.proofs.Runs.{line_room}
use Rattle.program_tests.proofs.alone.is_left_after.Goals as goal

pub run_instance-left-requires-clause-room : goal.run_instance-left-requires-clause-room
run_instance-left-requires-clause-room g c =
    let line = c.line-start in
    let enough = line_room c.args.chart.now c.args.i line.result.0 line.result.1 line.ensures.range in
    omega (arith, enough, c.in-Ok.ensures.capacity, c.saturating_sub.ensures)

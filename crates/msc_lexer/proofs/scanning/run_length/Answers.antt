use Rattle.std.proofs.Common.{arith}
use Rattle.msc_lexer.specs.Bytes.{is_run_byte}
use Rattle.msc_lexer.proofs.LaneLemmas.{run_ends, run_goes_on}
use Rattle.msc_lexer.proofs.scanning.run_length.Goals as goal

pub returns-then-run-lt-LANES : goal.returns-then-run-lt-LANES
returns-then-run-lt-LANES c =
    run_ends is_run_byte c.args.text.now c.loop-at.at c.run_in_load-run.result (omega arith) c.loop-at.invariant.1 c.run_in_load-run.ensures c.if-run-lt-LANES.true

pub loop-at-preserved : goal.loop-at-preserved
loop-at-preserved c =
    (omega arith, run_goes_on is_run_byte c.args.text.now c.loop-at.at c.run_in_load-run.result (omega arith) c.loop-at.invariant.1 c.run_in_load-run.ensures (omega arith))

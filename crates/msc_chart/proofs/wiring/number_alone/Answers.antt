use Rattle.std.proofs.Common.{arith}
use Rattle.msc_chart.proofs.Readers.{small_queue}
use Rattle.msc_chart.proofs.wiring.number_alone.Goals as goal

pub overflow_mul-result : goal.overflow_mul-result
overflow_mul-result c = omega (arith, small_queue c.args.sender c.args.instances 0 (omega arith) (omega arith) (omega arith))

pub overflow_add-result : goal.overflow_add-result
overflow_add-result c = omega (arith, small_queue c.args.sender c.args.instances c.args.receiver (omega arith) (omega arith) (omega arith))

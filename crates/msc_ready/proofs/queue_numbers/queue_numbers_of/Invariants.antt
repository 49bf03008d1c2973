use Rattle.msc_chart.specs.Wirings.{wired_by}
use Rattle.msc_ready.specs.QueueNumbers.{AreQueueNumbersTo}
use Rattle.msc_ready.proofs.queue_numbers.queue_numbers_of.Given as goal

abbrev pub invariant-loop-x : goal.invariant-loop-x
invariant-loop-x l = AreQueueNumbersTo (wired_by l.wiring) l.x l.numbers.items

use Rattle.std.proofs.Common.{take}
use Rattle.msc_refusals.specs.Charts.{AreBlocks}
use Rattle.msc_refusals.proofs.chart.Drafted.blocks.Given as goal

abbrev pub invariant-loop-fault : goal.invariant-loop-fault
invariant-loop-fault l = AreBlocks l.lines.refused l.self.draft.now (take l.fault-index l.faults) l.bytes.items

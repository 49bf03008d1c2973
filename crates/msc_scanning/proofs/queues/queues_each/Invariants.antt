use Rattle.std.proofs.Common.{List, [], drop}
use Rattle.msc_chart.specs.declared.queue.Queues.{Queues}
use Rattle.msc_scanning.specs.Queued.{AreQueues}
use Rattle.msc_scanning.proofs.queues.queues_each.Given as goal

-- the queues under the architectures that are left are those under all
abbrev pub invariant-loop-architecture : goal.invariant-loop-architecture
invariant-loop-architecture l =
    (all : List Queues) → AreQueues l.links l.linked (drop l.architecture-index l.architectures) l.found.items all
    → AreQueues l.links l.linked l.architectures [] all

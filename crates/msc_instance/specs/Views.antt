-- What contracts see of the ends of an instance and of what it leaves.
use Rattle.std.specs.Prelude.{map}
use Rattle.msc_instance.specs.declared.ends.InstanceEnds.{InstanceEnds}
use Rattle.msc_instance.specs.declared.ends.InstanceEnd.{InstanceEnd}
use Rattle.msc_instance.specs.declared.execution.Execution.{Execution}
use Rattle.msc_execution.specs.Roles.{EndLists}
use Rattle.msc_execution.specs.Running.{Left}
use Rattle.msc_execution.specs.Executions.{Outcome}

-- the ends, with the numbers of their queues
abbrev pub ends_of : InstanceEnds → EndLists
ends_of e = record { outlets = e.outlets.items; inlets = e.inlets.items }

-- what an instance left
abbrev pub left_by : InstanceEnd → Left
left_by r = record { log = r.log.items; ends = ends_of r.ends; end = r.end }

-- what an execution leaves
abbrev pub outcome_of : Execution → Outcome
outcome_of x = record { logs = map (λ log. log.items) x.logs.items; ends = x.ends.items; settled = x.queues.items }

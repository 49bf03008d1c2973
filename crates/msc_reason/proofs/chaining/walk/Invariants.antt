use Rattle.msc_order.specs.Caused.{IsFollowedBy}
use Rattle.std.proofs.Common.{length}
use Rattle.msc_chart.proofs.Numbers.{count_below}
use Rattle.msc_order.specs.Tables.{orders}
use Rattle.msc_race.specs.Views.{wiring_of}
use Rattle.msc_reason.specs.Chains.{LeadsTo}
use Rattle.msc_reason.specs.Rules.{LeadsByRule}
use Rattle.msc_reason.proofs.chaining.walk.Given as goal

-- the chain so far, and that it can go on
abbrev pub invariant-loop-at : goal.invariant-loop-at
invariant-loop-at l = record {
  chain : LeadsTo l.enforced.chart.events l.x l.steps.items l.at;
  chosen : LeadsByRule (wiring_of l.enforced) l.y l.x l.steps.items l.at;
  onward : IsFollowedBy l.enforced.chart.events l.at l.y;
}

-- ever fewer events are enforced after where it stands
abbrev pub decreases-loop-at : goal.decreases-loop-at
decreases-loop-at l = count_below (orders l.enforced.order l.at) (length l.enforced.chart.events)

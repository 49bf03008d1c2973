use Rattle.std.proofs.Common.{◌≡◌, ◌++◌, map, take}
use Rattle.msc_chart.specs.Events.{drawn}
use Rattle.msc_chart.specs.Views.{event_view}
use Rattle.msc_chart.proofs.end.push_coregion.Given as goal

abbrev pub invariant-loop-statement : goal.invariant-loop-statement
invariant-loop-statement l =
    map event_view l.events.items ≡ map event_view l.initial.events.items ++ map (drawn l.line l.own l.segment) (take l.statement-index l.statements)

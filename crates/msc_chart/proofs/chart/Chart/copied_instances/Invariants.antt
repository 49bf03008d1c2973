use Rattle.std.proofs.Common.{◌≡◌, take}
use Rattle.msc_chart.proofs.chart.Chart.copied_instances.Given as goal

abbrev pub invariant-loop-name : goal.invariant-loop-name
invariant-loop-name l = l.names.items ≡ take l.name-index l.self.instances

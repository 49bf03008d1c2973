use Rattle.std.proofs.Common.{◌≡◌, map, take}
use Rattle.std.specs.String.{string_bytes}
use Rattle.msc_shown_chart.specs.Words.{name_said}
use Rattle.msc_shown_chart.proofs.words.names_said.Given as goal

abbrev pub invariant-loop-i : goal.invariant-loop-i
invariant-loop-i l = map string_bytes l.names.items ≡ map name_said (take l.i l.chart.instances)

use Rattle.std.proofs.Common.{◌≡◌, map, take}
use Rattle.msc_import.specs.Drafting.{fitted}
use Rattle.msc_import.proofs.drafting.fitted_kind.Given as goal

abbrev pub invariant-loop-name : goal.invariant-loop-name
invariant-loop-name l = l.names.items ≡ map fitted (take l.name-index l.name-items)

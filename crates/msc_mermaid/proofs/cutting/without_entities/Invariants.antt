use Rattle.std.proofs.Common.{◌≡◌, ◌++◌, false, drop}
use Rattle.msc_mermaid.specs.Cutting.{bare_from}
use Rattle.msc_mermaid.proofs.cutting.without_entities.Given as goal

abbrev pub invariant-loop-i : goal.invariant-loop-i
invariant-loop-i l = l.bare.items ++ bare_from l.within (drop l.i l.bytes) ≡ bare_from false l.bytes

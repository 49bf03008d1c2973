use Rattle.std.proofs.Common.{◌≡◌, false, drop}
use Rattle.msc_mermaid.specs.Cutting.{leaves_open}
use Rattle.msc_mermaid.proofs.cutting.leaves_open.Given as goal

abbrev pub invariant-loop-i : goal.invariant-loop-i
invariant-loop-i l = leaves_open l.open (drop l.i l.bytes) ≡ leaves_open false l.bytes

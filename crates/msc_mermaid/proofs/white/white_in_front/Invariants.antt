use Rattle.std.proofs.Common.{◌≡◌, ◌+◌, drop}
use Rattle.msc_mermaid.specs.White.{front}
use Rattle.msc_mermaid.proofs.white.white_in_front.Given as goal

abbrev pub invariant-loop-i : goal.invariant-loop-i
invariant-loop-i l = l.i + front l.left (drop l.i l.bytes) ≡ front 0 l.bytes

use Rattle.std.proofs.Common.{◌≡◌, ◌≤◌, drop}
use Rattle.msc_mermaid.specs.White.{body}
use Rattle.msc_mermaid.proofs.WhiteLemmas.{ends}
use Rattle.msc_mermaid.proofs.white.body.Given as goal

abbrev pub invariant-loop-i : goal.invariant-loop-i
invariant-loop-i l = (ends l.i l.end (body l.left (drop l.i l.bytes)) ≡ body 0 l.bytes) × (l.end ≤ l.i)

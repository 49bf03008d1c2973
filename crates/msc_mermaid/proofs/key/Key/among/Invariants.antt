use Rattle.std.proofs.Common.{◌≡◌, drop, find}
use Rattle.msc_mermaid.specs.Keys.{are_spelled, spelling}
use Rattle.msc_mermaid.proofs.key.Key.among.Given as goal

abbrev pub invariant-loop-key : goal.invariant-loop-key
invariant-loop-key l =
    find (λ k. are_spelled l.bytes (spelling k)) (drop l.key-index l.keys) ≡ find (λ k. are_spelled l.bytes (spelling k)) l.keys

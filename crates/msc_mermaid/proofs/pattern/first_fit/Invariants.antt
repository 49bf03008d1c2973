use Rattle.std.proofs.Common.{◌≡◌, drop}
use Rattle.msc_mermaid.specs.Patterns.{first_fit}
use Rattle.msc_mermaid.proofs.pattern.first_fit.Given as goal

abbrev pub invariant-loop-pattern : goal.invariant-loop-pattern
invariant-loop-pattern l = first_fit (drop l.pattern-index l.patterns) l.bytes ≡ first_fit l.patterns l.bytes

use Rattle.std.proofs.Common.{◌≡◌, ◌+◌, drop, map}
use Rattle.msc_mermaid.specs.Mermaid.{steps}
use Rattle.msc_mermaid.proofs.progress.Progress.steps.Given as goal

abbrev pub invariant-loop-i : goal.invariant-loop-i
invariant-loop-i l =
    steps l.cross l.starts (l.i + 1) (map (λ x. x.now) (drop l.i l.lines)) l.self ≡ steps l.cross l.starts 1 (map (λ x. x.now) l.lines) l.fn.self

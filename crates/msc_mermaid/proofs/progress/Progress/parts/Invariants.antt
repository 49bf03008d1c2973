use Rattle.std.proofs.Common.{◌≡◌, drop, map}
use Rattle.msc_mermaid.specs.Parts.{steps_of, stretch}
use Rattle.msc_mermaid.proofs.progress.Progress.parts.Given as goal

abbrev pub invariant-loop-i : goal.invariant-loop-i
invariant-loop-i l =
    steps_of l.markup l.cross l.starts (map stretch (drop l.i l.parts)) l.self ≡ steps_of l.markup l.cross l.starts (map stretch l.parts) l.fn.self

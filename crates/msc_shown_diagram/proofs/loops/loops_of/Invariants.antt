use Rattle.std.proofs.Common.{◌≡◌, ◌++◌, drop}
use Rattle.msc_shown_diagram.specs.Loops.{loops_from, loops_of}
use Rattle.msc_shown_diagram.proofs.loops.loops_of.Given as goal

abbrev pub invariant-loop-k : goal.invariant-loop-k
invariant-loop-k l = l.all.items ++ loops_from l.k l.blocks.items (drop l.k l.statements) ≡ loops_of l.statements

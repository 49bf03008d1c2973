use Rattle.std.proofs.Common.{◌≡◌, take}
use Rattle.std.specs.List.{flat_map}
use Rattle.msc_shown_diagram.specs.Loops.{loop_at}
use Rattle.msc_shown_diagram.proofs.loops.loops_in.Given as goal

abbrev pub invariant-loop-block : goal.invariant-loop-block
invariant-loop-block l = l.loops.items ≡ flat_map loop_at (take l.block-index l.blocks)

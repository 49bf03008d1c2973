use Rattle.std.proofs.Common.{◌≡◌, length}
use Rattle.msc_scanning.specs.Files.{AreBlocks}
use Rattle.msc_scanning.proofs.rounds.blocks_of.Given as goal

abbrev pub invariant-loop-item : goal.invariant-loop-item
invariant-loop-item g l = record {
  are : AreBlocks l.plan l.input l.items l.blocks.items;
  many : length l.blocks.items ≡ l.item-index;
}

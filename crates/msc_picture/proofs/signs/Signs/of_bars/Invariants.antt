use Rattle.std.proofs.Common.{take}
use Rattle.msc_picture.specs.Signs.{AreBarsIn}
use Rattle.msc_picture.proofs.signs.Signs.of_bars.Given as goal

abbrev pub invariant-loop-bar : goal.invariant-loop-bar
invariant-loop-bar l = AreBarsIn (take l.bar-index l.bars) l.signs.instances.items

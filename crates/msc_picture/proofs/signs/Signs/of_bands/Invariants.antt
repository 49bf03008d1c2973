use Rattle.std.proofs.Common.{take}
use Rattle.msc_picture.specs.Signs.{AreBandsIn}
use Rattle.msc_picture.proofs.signs.Signs.of_bands.Given as goal

abbrev pub invariant-loop-band : goal.invariant-loop-band
invariant-loop-band l = AreBandsIn (take l.band-index l.bands) l.many l.signs.instances.items

use Rattle.std.proofs.Common.{◌≡◌, take}
use Rattle.std.specs.List.{flat_map}
use Rattle.msc_svg.specs.Elements.{stretch_at}
use Rattle.msc_svg.proofs.head.stretches.Given as goal

abbrev pub invariant-loop-band : goal.invariant-loop-band
invariant-loop-band l =
    l.all.items ≡ flat_map (stretch_at l.layout l.i) (take l.band-index l.bands)

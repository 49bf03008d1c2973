use Rattle.std.proofs.Common.{◌≡◌, ◌++◌, drop}
use Rattle.msc_svg.specs.Elements.{axis_from}
use Rattle.msc_svg.proofs.head.axis_from.Given as goal

abbrev pub invariant-loop-band : goal.invariant-loop-band
invariant-loop-band l =
    l.d.items ++ axis_from l.x l.s (drop l.band-index l.bands) l.foot ≡ axis_from l.x l.start l.bands l.foot

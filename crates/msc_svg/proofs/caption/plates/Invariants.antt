use Rattle.std.proofs.Common.{◌≡◌, take}
use Rattle.std.specs.List.{flat_map}
use Rattle.msc_svg.specs.Captions.{caption_plate}
use Rattle.msc_svg.proofs.caption.plates.Given as goal

abbrev pub invariant-loop-caption : goal.invariant-loop-caption
invariant-loop-caption l =
    l.d.items ≡ flat_map caption_plate (take l.caption-index l.captions)

use Rattle.std.proofs.Common.{◌≡◌, take}
use Rattle.std.specs.List.{flat_map}
use Rattle.msc_svg.specs.Elements.{open_path}
use Rattle.msc_svg.proofs.head.open_paths.Given as goal

abbrev pub invariant-loop-band : goal.invariant-loop-band
invariant-loop-band l =
    l.d.items ≡ flat_map (open_path l.x) (take l.band-index l.bands)

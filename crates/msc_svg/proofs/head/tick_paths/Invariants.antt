use Rattle.std.proofs.Common.{◌≡◌, take}
use Rattle.std.specs.List.{flat_map}
use Rattle.msc_svg.specs.Elements.{tick_path}
use Rattle.msc_svg.proofs.head.tick_paths.Given as goal

abbrev pub invariant-loop-band : goal.invariant-loop-band
invariant-loop-band l =
    l.d.items ≡ flat_map (tick_path l.x) (take l.band-index l.bands)

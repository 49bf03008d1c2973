use Rattle.std.proofs.Common.{◌≡◌, take}
use Rattle.std.specs.List.{flat_map}
use Rattle.std.specs.Prelude.{slice_get}
use Rattle.msc_svg.specs.Captions.{spot_captions}
use Rattle.msc_svg.proofs.caption.captions_of.Given as goal

abbrev pub invariant-loop-e : goal.invariant-loop-e
invariant-loop-e l =
    l.captions.items
    ≡ flat_map (λ e. spot_captions l.scene l.layout e (slice_get l.scene.spots e)) (take l.e-index l.order)

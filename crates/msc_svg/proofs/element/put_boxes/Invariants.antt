use Rattle.std.proofs.Common.{◌≡◌, ◌++◌, take}
use Rattle.std.specs.List.{flat_map}
use Rattle.std.specs.Prelude.{slice_get}
use Rattle.msc_svg.specs.Elements.{spot_nodes}
use Rattle.msc_tree.specs.Trees.{lines_text}
use Rattle.msc_svg.proofs.element.put_boxes.Given as goal

abbrev pub invariant-loop-e : goal.invariant-loop-e
invariant-loop-e l =
    l.page.items
    ≡ l.initial.page.items
    ++ lines_text (flat_map (λ e. spot_nodes l.scene l.layout e (slice_get l.scene.spots e))
    (take l.e-index l.order))

use Rattle.std.proofs.Common.{◌<◌, length, arith}
use Rattle.msc_svg.proofs.Ranges.{line_item}
use Rattle.msc_svg.specs.Elements.{arrow_node}
use Rattle.msc_svg.proofs.element.put_arrows.Goals as goal

pub loop-arrow-preserved : goal.loop-arrow-preserved
loop-arrow-preserved c =
    let within : c.loop-arrow.arrow-index < length c.as_slice-arrows.result.now = omega arith in
    line_item (arrow_node c.args.scene.now c.args.layout.now) c.as_slice-arrows.result.now
    c.loop-arrow.arrow-index c.arrow-item.result c.args.page.now.items _ _ within c.arrow-item.is
    c.loop-arrow.invariant c.in_ok-put_arrow.ensures

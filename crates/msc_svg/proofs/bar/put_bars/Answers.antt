use Rattle.std.proofs.Common.{◌<◌, length, arith}
use Rattle.msc_svg.proofs.Ranges.{lines_item}
use Rattle.msc_svg.specs.Elements.{bar_nodes}
use Rattle.msc_svg.proofs.bar.put_bars.Goals as goal

pub loop-bar-preserved : goal.loop-bar-preserved
loop-bar-preserved c =
    let bars = c.as_slice-bars.result.now in
    let within : c.loop-bar.bar-index < length bars = omega arith in
    lines_item (bar_nodes c.args.scene.now c.args.layout.now) bars c.loop-bar.bar-index
    c.bar-item.result c.args.page.now.items c.loop-bar.page.items c.put_bar.new.page.items within
    c.bar-item.is c.loop-bar.invariant c.in_ok-put_bar.ensures

use Rattle.std.proofs.Common.{◌<◌, length, arith}
use Rattle.msc_svg.proofs.Ranges.{line_item}
use Rattle.msc_svg.specs.Captions.{caption_node}
use Rattle.msc_svg.proofs.caption.put_caption_nodes.Goals as goal

pub loop-caption-preserved : goal.loop-caption-preserved
loop-caption-preserved c =
    let within : c.loop-caption.caption-index < length c.args.captions.now = omega arith in
    line_item caption_node c.args.captions.now c.loop-caption.caption-index c.caption-item.result
    c.args.page.now.items _ _ within c.caption-item.is c.loop-caption.invariant
    c.in_ok-put_caption.ensures

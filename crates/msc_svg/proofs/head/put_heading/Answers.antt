use Rattle.msc_svg.proofs.Ranges.{line_next}
use Rattle.msc_svg.specs.Elements.{heading_node}
use Rattle.msc_svg.proofs.head.put_heading.Goals as goal

pub loop-k-preserved : goal.loop-k-preserved
loop-k-preserved c =
    line_next (heading_node c.args.heading.now) c.loop-k.k c.args.page.now.items _ _
    c.loop-k.invariant c.in_ok-put_heading_text.ensures

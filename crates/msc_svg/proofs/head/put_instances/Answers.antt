use Rattle.msc_svg.proofs.Ranges.{lines_next}
use Rattle.msc_svg.specs.Elements.{instance_nodes}
use Rattle.msc_svg.proofs.head.put_instances.Goals as goal

pub loop-i-preserved : goal.loop-i-preserved
loop-i-preserved c =
    lines_next (instance_nodes c.args.scene.now c.args.layout.now) c.loop-i.i c.args.page.now.items
    _ _ c.loop-i.invariant c.in_ok-put_instance.ensures

use Rattle.std.proofs.Common.{codes}
use Rattle.msc_svg.proofs.Chains.{three_attributes}
use Rattle.msc_svg.specs.Svg.{view_box}
use Rattle.msc_tree.specs.Shapes.{numbered, valued}
use Rattle.msc_svg.proofs.svg.put_size.Goals as goal

pub returns : goal.returns
returns c =
    let l = c.args.layout.now in
    three_attributes c.args.page.now.items c.put_numbered.new.page.items
    c.put_numbered-2.new.page.items c.put_view_box.new.page.items (numbered (codes "width") l.width)
    (numbered (codes "height") l.height) (valued (codes "viewBox") (view_box l))
    c.in_ok-put_numbered.ensures c.in_ok-put_numbered-2.ensures c.in_ok-put_view_box.ensures

use Rattle.msc_svg.proofs.Chains.{line_then, then_line}
use Rattle.std.proofs.Common.{◌∷◌}
use Rattle.msc_svg.specs.Elements.{axis_node, foot_node, open_nodes}
use Rattle.msc_svg.proofs.head.put_axis.Goals as goal

pub returns : goal.returns
returns c =
    let l = c.args.layout.now in
    let first = axis_node l c.args.x c.args.bands.now in
    let more = open_nodes c.args.x c.args.bands.now in
    then_line c.args.page.now.items c.put_open.new.page.items c.put_foot.new.page.items
    (first ∷ more) (foot_node l c.args.x)
    (line_then c.args.page.now.items c.put_axis_path.new.page.items c.put_open.new.page.items first
    more c.in_ok-put_axis_path.ensures c.in_ok-put_open.ensures)
    c.in_ok-put_foot.ensures

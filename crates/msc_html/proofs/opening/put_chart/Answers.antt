use Rattle.std.proofs.Common.{[], ◌∷◌, codes}
use Rattle.msc_html.specs.Reports.{chart_node}
use Rattle.msc_svg.proofs.Chains.{as_lines, line_then}
use Rattle.msc_tree.specs.Shapes.{plain}
use Rattle.msc_html.proofs.opening.put_chart.Goals as goal

pub returns : goal.returns
returns c =
    let p = c.put_plain.new.page.items in
    let next = c.put_chart_figure.new.page.items in
    let chart = chart_node c.args.scene.now c.args.races in
    line_then c.args.page.now.items p next (plain (codes "h2") (codes "The chart")) (chart ∷ [])
    c.in_ok-put_plain.ensures (as_lines p next chart c.in_ok-put_chart_figure.ensures)

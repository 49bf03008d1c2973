use Rattle.std.proofs.Common.{List, [], ◌∷◌, codes}
use Rattle.msc_html.proofs.Blocks.{put_block}
use Rattle.msc_html.proofs.FindingLemmas.{rest_of}
use Rattle.msc_html.specs.DiagramReports.{diagram_nodes}
use Rattle.msc_html.specs.Front.{store_node}
use Rattle.msc_svg.proofs.Chains.{as_lines, line_then}
use Rattle.msc_tree.specs.Shapes.{plain}
use Rattle.msc_tree.specs.Trees.{Node, children}
use Rattle.msc_tree.specs.Trees.Node.{block}
use Rattle.msc_html.proofs.diagram.put_body.Goals as goal

pub returns : goal.returns
returns c =
    let x = c.args.cut in
    let r = x.report.now in
    let base = c.args.page.now.items in
    let p1 = c.extend_from_slice.new.self.items in
    let p2 = c.put_store.new.page.items in
    let p3 = c.extend_from_slice-2.new.self.items in
    let p4 = c.put_main.new.page.items in
    let p5 = c.extend_from_slice-3.new.self.items in
    let first : Node = plain (codes "h1") r.name in
    let others : List Node = rest_of (diagram_nodes r x.chart.now x.queues c.args.version.now) in
    let main : Node = block (codes "main") [] (children (first ∷ others)) in
    let inner = put_block p2 p3 p4 p5 (codes "main") [] first others
    c.in_ok-extend_from_slice-2.ensures.items c.in_ok-put_main.ensures c.in_ok-extend_from_slice-3.ensures.items in
    put_block base p1 p5 c.extend_from_slice-4.new.self.items (codes "body") [] store_node (main ∷ [])
    c.in_ok-extend_from_slice.ensures.items
    (line_then p1 p2 p5 store_node (main ∷ []) c.in_ok-put_store.ensures (as_lines p2 p5 main inner))
    c.in_ok-extend_from_slice-4.ensures.items

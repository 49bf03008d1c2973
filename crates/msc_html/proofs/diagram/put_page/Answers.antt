use Rattle.std.proofs.Common.{List, ℕ, [], ◌∷◌, ◌++◌, codes, ap, ap₂, ◌∙◌}
use Rattle.msc_html.proofs.Blocks.{put_block}
use Rattle.msc_html.specs.DiagramReports.{diagram_body, diagram_page, paragraph_at, verdict_of}
use Rattle.msc_html.specs.Front.{head_with, wide_sheet}
use Rattle.msc_svg.proofs.Chains.{as_lines, behind, line_then}
use Rattle.msc_tree.specs.Shapes.{valued}
use Rattle.msc_tree.specs.Trees.{Node, line_text}
use Rattle.msc_html.proofs.diagram.put_page.Goals as goal

pub returns : goal.returns
returns c =
    let x = c.args.cut in
    let r = x.report.now in
    let base = c.args.page.now.items in
    let p0 = c.extend_from_slice.new.self.items in
    let p1 = c.extend_from_slice-2.new.self.items in
    let p2 = c.put_wide_head.new.page.items in
    let p3 = c.put_body.new.page.items in
    let p4 = c.extend_from_slice-3.new.self.items in
    let text = c.paragraph_at.ensures ∙ ap₂ paragraph_at c.requires.found c.requires.races in
    let head : Node = head_with wide_sheet (verdict_of r) in
    let body : Node = diagram_body r x.chart.now x.queues c.args.version.now in
    let title = c.in_ok-put_wide_head.ensures ∙ ap (λ (t : List ℕ). p1 ++ line_text (head_with wide_sheet t)) text in
    let page = put_block p0 p1 p3 p4 (codes "html") (valued (codes "lang") (codes "en") ∷ []) head (body ∷ [])
    c.in_ok-extend_from_slice-2.ensures.items
    (line_then p1 p2 p3 head (body ∷ []) title (as_lines p2 p3 body c.in_ok-put_body.ensures))
    c.in_ok-extend_from_slice-3.ensures.items in
    behind base (codes "<!DOCTYPE html>\n") (line_text (diagram_page r x.chart.now x.queues c.args.version.now)) p0 p4
    c.in_ok-extend_from_slice.ensures.items page

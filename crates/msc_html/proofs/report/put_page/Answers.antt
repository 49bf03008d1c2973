use Rattle.std.proofs.Common.{[], ◌∷◌, codes}
use Rattle.msc_html.proofs.Blocks.{put_block}
use Rattle.msc_html.specs.Front.{head_node}
use Rattle.msc_html.specs.Progress.{judged, report_in}
use Rattle.msc_html.specs.Reports.{body_node, report_node, title_text}
use Rattle.msc_svg.proofs.Chains.{as_lines, behind, line_then}
use Rattle.msc_tree.specs.Shapes.{valued}
use Rattle.msc_tree.specs.Trees.{line_text}
use Rattle.msc_html.proofs.report.put_page.Goals as goal

pub returns : goal.returns
returns c =
    let source = c.args.source.now in
    let told = c.in_ok-put_body.ensures in
    let r = report_in source c.args.races c.args.closest told.articles c.args.text.now c.args.version.now in
    let base = c.args.page.now.items in
    let p0 = c.extend_from_slice.new.self.items in
    let p1 = c.extend_from_slice-2.new.self.items in
    let p2 = c.put_titled_head.new.page.items in
    let p3 = c.put_body.new.page.items in
    let p4 = c.extend_from_slice-3.new.self.items in
    let head = head_node (title_text source.scene.now.name (judged source).chart (judged source).queues c.args.races c.args.closest) in
    let body = body_node r in
    let page = put_block p0 p1 p3 p4 (codes "html") (valued (codes "lang") (codes "en") ∷ []) head (body ∷ [])
    c.in_ok-extend_from_slice-2.ensures.items
    (line_then p1 p2 p3 head (body ∷ []) c.in_ok-put_titled_head.ensures
    (as_lines p2 p3 body told.page_is)) c.in_ok-extend_from_slice-3.ensures.items in
    record {
      articles = told.articles;
      many = told.many;
      are = told.are;
      page_is = behind base (codes "<!DOCTYPE html>\n") (line_text (report_node r)) p0 p4
          c.in_ok-extend_from_slice.ensures.items page;
    }

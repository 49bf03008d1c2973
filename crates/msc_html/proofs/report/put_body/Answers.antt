use Rattle.std.proofs.Common.{List, [], ◌∷◌, ◌++◌, codes, ap, sym, ◌∙◌}
use Rattle.msc_html.proofs.Blocks.{put_block}
use Rattle.msc_html.proofs.Pictured.{main_first}
use Rattle.msc_html.specs.Front.{store_node}
use Rattle.msc_html.specs.Progress.{report_in}
use Rattle.msc_svg.proofs.Chains.{as_lines, line_then}
use Rattle.msc_tree.specs.Trees.{Node, children, line_text, lines_text}
use Rattle.msc_tree.specs.Trees.Node.{block}
use Rattle.msc_html.proofs.report.put_body.Goals as goal

pub returns : goal.returns
returns c =
    let told = c.in_ok-put_main.ensures in
    let r = report_in c.args.source.now c.args.races c.args.closest told.articles c.args.text.now c.args.version.now in
    let base = c.args.page.now.items in
    let p1 = c.extend_from_slice.new.self.items in
    let p2 = c.put_store.new.page.items in
    let p3 = c.extend_from_slice-2.new.self.items in
    let p4 = c.put_main.new.page.items in
    let p5 = c.extend_from_slice-3.new.self.items in
    let first = main_first r in
    let main : Node = block (codes "main") [] (children (first.first ∷ first.others)) in
    let lines = told.page_is ∙ ap (λ (x : List Node). p3 ++ lines_text x) first.are in
    let inner = put_block p2 p3 p4 p5 (codes "main") [] first.first first.others
    c.in_ok-extend_from_slice-2.ensures.items lines c.in_ok-extend_from_slice-3.ensures.items in
    record {
      articles = told.articles;
      many = told.many;
      are = told.are;
      page_is = put_block base p1 p5 c.extend_from_slice-4.new.self.items (codes "body") []
          store_node (main ∷ []) c.in_ok-extend_from_slice.ensures.items
          (line_then p1 p2 p5 store_node (main ∷ []) c.in_ok-put_store.ensures (as_lines p2 p5 main inner))
          c.in_ok-extend_from_slice-4.ensures.items
          ∙ ap (λ (x : List Node). base ++ line_text (block (codes "body") []
          (children (store_node ∷ block (codes "main") [] (children x) ∷ [])))) (sym first.are);
    }

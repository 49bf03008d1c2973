use Rattle.std.proofs.Common.{[], ◌∷◌, codes}
use Rattle.msc_html.proofs.Blocks.{put_block}
use Rattle.msc_html.specs.declared.part.SentenceStyle.TheVariants.{Scrolled}
use Rattle.msc_html.specs.Articles.{place_text}
use Rattle.msc_html.specs.DiagramReports.{race_title}
use Rattle.msc_html.specs.Parts.{sentence, words}
use Rattle.msc_svg.proofs.Chains.{as_lines, line_then}
use Rattle.msc_tree.specs.Shapes.{valued}
use Rattle.msc_tree.specs.Trees.{Node}
use Rattle.msc_html.proofs.diagram.put_finding.Goals as goal

pub returns : goal.returns
returns c =
    let p = c.put_article_begin.new.page.items in
    let r = c.put_race_title.new.page.items in
    let q = c.put_said.new.page.items in
    let text : Node = sentence (codes "pre") Scrolled (words c.args.text.now ∷ []) in
    put_block c.args.page.now.items p q c.extend_from_slice.new.self.items (codes "article")
    (valued (codes "id") (place_text c.args.k) ∷ []) (race_title c.args.k) (text ∷ [])
    c.in_ok-put_article_begin.ensures
    (line_then p r q (race_title c.args.k) (text ∷ []) c.in_ok-put_race_title.ensures (as_lines r q text c.in_ok-put_said.ensures))
    c.in_ok-extend_from_slice.ensures.items

use Rattle.std.proofs.Common.{[], ◌∷◌, codes}
use Rattle.std.specs.Prelude.{option_map}
use Rattle.msc_html.proofs.Blocks.{put_block}
use Rattle.msc_html.specs.declared.part.SentenceStyle.TheVariants.{Plain}
use Rattle.msc_html.specs.Articles.{place_text, run_node, told_nodes}
use Rattle.msc_html.specs.Parts.{sentence}
use Rattle.msc_html.specs.Telling.{drawn_parts, causes_parts, reason_parts, title_parts}
use Rattle.msc_svg.proofs.Chains.{then_line}
use Rattle.msc_tree.specs.Shapes.{valued}
use Rattle.msc_html.proofs.article.put_article.Goals as goal

pub returns : goal.returns
returns c =
    let s = c.args.scene.now in
    let t = c.args.told in
    let p = c.put_article_begin.new.page.items in
    let r = c.put_told.new.page.items in
    let q = c.put_run.new.page.items in
    let e = c.args.enforced.now in
    let run = run_node e.chart e.queues t (option_map (λ s. s.now) c.args.run) in
    put_block c.args.page.now.items p q c.extend_from_slice.new.self.items (codes "article")
    (valued (codes "id") (place_text t.number) ∷ [])
    (sentence (codes "h3") Plain (title_parts s t.number t.first t.cause))
    (sentence (codes "p") Plain (drawn_parts s t.first t.second)
    ∷ sentence (codes "p") Plain (reason_parts s t.first t.second t.cause)
    ∷ sentence (codes "p") Plain (causes_parts s t.cause) ∷ run ∷ [])
    c.in_ok-put_article_begin.ensures
    (then_line p r q (told_nodes s t) run c.in_ok-put_told.ensures c.in_ok-put_run.ensures)
    c.in_ok-extend_from_slice.ensures.items

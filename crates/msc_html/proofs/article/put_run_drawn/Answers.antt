use Rattle.std.proofs.Common.{ℕ, List, [], ◌∷◌, ◌++◌, codes, ap, ◌∙◌}
use Rattle.msc_html.proofs.Blocks.{put_block}
use Rattle.msc_html.specs.Articles.{open_attributes, run_text}
use Rattle.msc_html.specs.Figures.{figure_of}
use Rattle.msc_svg.proofs.Chains.{as_lines, line_then}
use Rattle.msc_tree.specs.Shapes.{plain}
use Rattle.msc_tree.specs.Trees.{line_text}
use Rattle.msc_html.proofs.article.put_run_drawn.Goals as goal

pub returns : goal.returns
returns c =
    let t = c.args.told in
    let p = c.put_details_begin.new.page.items in
    let r = c.put_plain.new.page.items in
    let q = c.put_figure.new.page.items in
    let run = c.args.run.now in
    let summary = plain (codes "summary") (run_text t) in
    let figure = figure_of run (run_text t) [] in
    let first = c.in_ok-put_plain.ensures
    ∙ ap (λ (x : List ℕ). p ++ line_text (plain (codes "summary") x)) (c.deref.ensures.value ∙ c.in_ok-text.ensures) in
    let second = c.in_ok-put_figure.ensures
    ∙ ap (λ (x : List ℕ). r ++ line_text (figure_of run x [])) (c.deref-2.ensures.value ∙ c.in_ok-text.ensures) in
    put_block c.args.page.now.items p q c.extend_from_slice.new.self.items (codes "details")
    (open_attributes t.number) summary (figure ∷ []) c.in_ok-put_details_begin.ensures
    (line_then p r q summary (figure ∷ []) first (as_lines r q figure second))
    c.in_ok-extend_from_slice.ensures.items

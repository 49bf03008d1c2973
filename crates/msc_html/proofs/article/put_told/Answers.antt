use Rattle.std.proofs.Common.{ℕ, List, ◌++◌, codes, ap, ◌∙◌}
use Rattle.msc_html.specs.declared.part.SentenceStyle.TheVariants.{Plain}
use Rattle.msc_html.specs.declared.part.Part.{Part}
use Rattle.msc_html.specs.Parts.{sentence}
use Rattle.msc_html.specs.Telling.{drawn_parts, causes_parts, reason_parts, title_parts}
use Rattle.msc_svg.proofs.Chains.{four_lines}
use Rattle.msc_tree.specs.Trees.{line_text}
use Rattle.msc_html.proofs.article.put_told.Goals as goal

pub returns : goal.returns
returns c =
    let s = c.args.scene.now in
    let t = c.args.told in
    let base = c.args.page.now.items in
    let p = c.put_sentence.new.page.items in
    let q = c.put_sentence-2.new.page.items in
    let r = c.put_sentence-3.new.page.items in
    let said = λ (name : List ℕ) (old : List ℕ) (parts : List Part). old ++ line_text (sentence name Plain parts) in
    four_lines base p q r c.put_sentence-4.new.page.items
    (sentence (codes "h3") Plain (title_parts s t.number t.first t.cause))
    (sentence (codes "p") Plain (drawn_parts s t.first t.second))
    (sentence (codes "p") Plain (reason_parts s t.first t.second t.cause))
    (sentence (codes "p") Plain (causes_parts s t.cause))
    (c.in_ok-put_sentence.ensures ∙ ap (said (codes "h3") base) (c.deref.ensures.value ∙ c.in_ok-title.ensures))
    (c.in_ok-put_sentence-2.ensures ∙ ap (said (codes "p") p) (c.deref-2.ensures.value ∙ c.in_ok-drawn.ensures))
    (c.in_ok-put_sentence-3.ensures ∙ ap (said (codes "p") q) (c.deref-3.ensures.value ∙ c.in_ok-reason.ensures))
    (c.in_ok-put_sentence-4.ensures ∙ ap (said (codes "p") r) (c.deref-4.ensures.value ∙ c.in_ok-causes.ensures))

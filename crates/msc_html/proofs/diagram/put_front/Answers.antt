use Rattle.std.proofs.Common.{ℕ, List, [], ◌∷◌, ◌++◌, codes, ap, ap₂, ◌∙◌}
use Rattle.msc_html.specs.declared.part.SentenceStyle.{SentenceStyle}
use Rattle.msc_html.specs.declared.part.SentenceStyle.TheVariants.{Soft}
use Rattle.msc_html.specs.DiagramReports.{diagram_checked, paragraph_at, races_in, verdict_of, verdict_style}
use Rattle.msc_html.specs.Parts.{sentence, words}
use Rattle.msc_html.specs.Reports.{if_any, race_text}
use Rattle.msc_svg.proofs.Chains.{line_then}
use Rattle.msc_tree.specs.Shapes.{plain}
use Rattle.msc_tree.specs.Trees.{Node, line_text, lines_text}
use Rattle.msc_html.proofs.diagram.put_front.Goals as goal

pub returns : goal.returns
returns c =
    let x = c.args.cut in
    let r = x.report.now in
    let base = c.args.page.now.items in
    let p = c.put_plain.new.page.items in
    let q = c.put_said.new.page.items in
    let s = c.put_said-2.new.page.items in
    let next = c.put_explained.new.page.items in
    let name : Node = plain (codes "h1") r.name in
    let checked : Node = sentence (codes "p") Soft (words (diagram_checked r.scenarios x.chart.now x.queues) ∷ []) in
    let said : SentenceStyle → List ℕ → Node = λ style text. sentence (codes "p") style (words text ∷ []) in
    let races = c.requires.races in
    let text = c.paragraph_at-verdict.ensures ∙ ap₂ paragraph_at c.requires.found races in
    let first = c.in_ok-put_plain.ensures ∙ ap (λ (t : List ℕ). base ++ line_text (plain (codes "h1") t)) c.as_slice.ensures in
    let second = c.in_ok-put_said.ensures
    ∙ ap (λ (t : List ℕ). p ++ line_text (said Soft t)) (c.deref.ensures.value ∙ c.in_ok-checked.ensures) in
    let third = c.in_ok-put_said-2.ensures
    ∙ ap₂ (λ (style : SentenceStyle) (t : List ℕ). q ++ line_text (said style t)) (c.verdict_style.ensures ∙ ap verdict_style races) text in
    let fourth = c.in_ok-put_explained.ensures
    ∙ ap (λ (n : ℕ). s ++ lines_text (if_any n (plain (codes "p") race_text ∷ []))) races in
    let verdict : Node = said (verdict_style (races_in r.sections)) (verdict_of r) in
    let explained : List Node = if_any (races_in r.sections) (plain (codes "p") race_text ∷ []) in
    line_then base p next name (checked ∷ verdict ∷ explained) first
    (line_then p q next checked (verdict ∷ explained) second
    (line_then q s next verdict explained third fourth))

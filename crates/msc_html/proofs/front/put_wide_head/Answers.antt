use Rattle.std.proofs.Common.{List, ℕ, ◌++◌, codes, ap, ◌∙◌}
use Rattle.msc_html.specs.Front.{head_with}
use Rattle.msc_tree.specs.Trees.{line_text}
use Rattle.msc_html.proofs.front.put_wide_head.Goals as goal

pub returns : goal.returns
returns c =
    let sheet = c.deref.ensures.value ∙ c.in_ok-extend_from_slice.ensures.items
    ∙ ap (λ (l : List ℕ). l ++ codes "main{max-width:none}article{max-width:62rem}") c.in_ok-sheet.ensures.items in
    c.in_ok-put_head_with.ensures
    ∙ ap (λ (x : List ℕ). c.args.page.now.items ++ line_text (head_with x c.args.title.now)) sheet

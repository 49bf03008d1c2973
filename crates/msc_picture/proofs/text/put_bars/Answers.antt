use Rattle.std.proofs.Common.{◌≡◌, ℕ, List, None, Option, fold, sym, ap, ◌∙◌}
use Rattle.msc_picture.specs.Signs.{instances_at, second_at, with_sign}
use Rattle.msc_picture.proofs.SignLemmas.{row_stars}
use Rattle.msc_picture.proofs.text.put_bars.Goals as goal

pub returns-in-Some : goal.returns-in-Some
returns-in-Some c = λ bars of.
    let signs = c.args.bars.now.instances.items in
    let star = with_sign c.args.c.now 42 in
    let line = c.args.line.now.items in
    let first = fold star line (instances_at signs c.args.row.first) in
    c.put_signs-in-Some.ensures ∙ ap (fold star c.put_signs.new.line.items) c.at-in-Some.ensures
    ∙ ap (λ (l : List ℕ). fold star l (instances_at signs c.in-Some.second))
    (c.put_signs.ensures ∙ ap (fold star line) c.at.ensures)
    ∙ ap (λ (o : Option ℕ). fold star first (second_at signs o)) (sym c.in-Some.is)
    ∙ row_stars c.args.c.now c.args.row line bars signs of

pub returns-in_default : goal.returns-in_default
returns-in_default c = λ bars of.
    let signs = c.args.bars.now.instances.items in
    let star = with_sign c.args.c.now 42 in
    let line = c.args.line.now.items in
    let first = fold star line (instances_at signs c.args.row.first) in
    let none : c.args.row.second ≡ None = cc in
    c.put_signs.ensures ∙ ap (fold star line) c.at.ensures
    ∙ ap (λ (o : Option ℕ). fold star first (second_at signs o)) (sym none)
    ∙ row_stars c.args.c.now c.args.row line bars signs of

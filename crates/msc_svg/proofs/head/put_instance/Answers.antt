use Rattle.std.proofs.Common.{◌≡◌, ℕ, List, get_or, refl, ◌∙◌, ap}
use Rattle.std.proofs.lemmas.List.{get_or_default}
use Rattle.msc_picture.specs.Columns.{no_head}
use Rattle.msc_picture.specs.declared.scene.Head.{Head}
use Rattle.msc_svg.proofs.Chains.{at_equal}
use Rattle.msc_svg.proofs.Ranges.{lines_behind}
use Rattle.msc_svg.specs.Elements.{axis_nodes, head_nodes, stretches}
use Rattle.msc_svg.specs.Layouts.{half}
use Rattle.msc_svg.specs.Places.{axis}
use Rattle.msc_svg.proofs.head.put_instance.Goals as goal

pub returns : goal.returns
returns c =
    let s = c.args.scene.now in
    let l = c.args.layout.now in
    let i = c.args.i in
    let x = axis l i in
    let base = c.args.page.now.items in
    let now = c.put_head.new.page.items in
    let next = c.put_axis.new.page.items in
    let head : c.index-as_slice-i.result ≡ get_or s.heads i no_head =
    c.index-as_slice-i.is
    ∙ ap (λ (heads : List Head). get_or heads i c.index-as_slice-i.result) c.as_slice.ensures
    ∙ get_or_default s.heads i c.index-as_slice-i.result no_head c.requires in
    let upper = at_equal (head_nodes l) base now c.axis_at-x.result x c.in_ok-w.w (half s i)
    c.index-as_slice-i.result (get_or s.heads i no_head) c.in_ok-put_head.ensures
    c.axis_at-x.ensures c.in_ok-w.ensures head in
    let lower = at_equal (λ (y : ℕ) (bands all : List (ℕ × ℕ)). axis_nodes l y bands) now next
    c.axis_at-x.result x c.as_slice-2.result.now (stretches s l i) (stretches s l i) (stretches s l i)
    c.in_ok-put_axis.ensures c.axis_at-x.ensures
    (c.as_slice-2.ensures.value ∙ c.in_ok-bands.ensures) refl in
    lines_behind base now next (head_nodes l x (half s i) (get_or s.heads i no_head))
    (axis_nodes l x (stretches s l i)) upper lower

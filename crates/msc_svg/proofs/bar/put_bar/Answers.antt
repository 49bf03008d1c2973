use Rattle.std.proofs.Common.{ℕ, List, ◌++◌, refl}
use Rattle.msc_svg.proofs.Chains.{at_equal, line_then}
use Rattle.msc_svg.proofs.Ranges.{lines_behind}
use Rattle.msc_svg.specs.Elements.{capsule_of, ends_at}
use Rattle.msc_svg.specs.Places.{axis}
use Rattle.msc_tree.specs.Trees.{Node}
use Rattle.msc_svg.proofs.bar.put_bar.Goals as goal

pub returns : goal.returns
returns c =
    let s = c.args.scene.now in
    let l = c.args.layout.now in
    let bar = c.args.bar.now in
    let x = axis l bar.instance in
    let base = c.args.page.now.items in
    let now = c.put_capsule_of.new.page.items in
    let next = c.put_ends.new.page.items in
    let last = c.put_ends-2.new.page.items in
    let ends : (x : ℕ) (es es' : List ℕ) → List Node = λ x es es'. ends_at s l x es in
    let upper = at_equal ends now next c.axis-x.result x c.as_slice.result.now bar.upper
    bar.upper bar.upper c.in_ok-put_ends.ensures c.axis-x.ensures c.as_slice.ensures refl in
    let lower = at_equal ends next last c.axis-x.result x c.as_slice-2.result.now bar.lower
    bar.lower bar.lower c.in_ok-put_ends-2.ensures c.axis-x.ensures c.as_slice-2.ensures refl in
    line_then base now last (capsule_of s l bar) (ends_at s l x bar.upper ++ ends_at s l x bar.lower)
    c.in_ok-put_capsule_of.ensures
    (lines_behind now next last (ends_at s l x bar.upper) (ends_at s l x bar.lower) upper lower)

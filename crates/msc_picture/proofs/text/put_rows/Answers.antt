use Rattle.std.proofs.Common.{ℕ, List, ◌++◌, ap, ◌∙◌, arith}
use Rattle.std.specs.Prelude.{slice_get}
use Rattle.msc_picture.specs.Texts.{line_at}
use Rattle.msc_picture.proofs.Lines.{line_there}
use Rattle.msc_picture.proofs.Ranges.{flat_behind}
use Rattle.msc_picture.proofs.text.put_rows.Goals as goal

pub loop-r-preserved : goal.loop-r-preserved
loop-r-preserved c =
    let line = line_there c.args.scene.now c.args.c.now c.loop-r.r c.as_slice-rows.result.now _
    c.in_ok-line.line.items c.as_slice-rows.ensures (omega (arith, c.loop-r-test.true))
    c.in_ok-line.ensures in
    flat_behind (λ r. line_at c.args.scene.now c.args.c.now r (slice_get c.args.scene.now.rows r))
    c.loop-r.r c.args.page.now.items _ _ c.loop-r.invariant
    (c.in_ok-extend_from_slice.ensures.items
    ∙ ap (λ (l : List ℕ). c.loop-r.page.items ++ l) (c.deref.ensures.value ∙ line))

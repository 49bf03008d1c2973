use Rattle.std.proofs.Common.{inl, inr, refl, sym, ap, ◌∙◌}
use Rattle.msc_chart.proofs.ListLemmas.{clash}
use Rattle.msc_chart.proofs.Drawn.{controlled_no_input, controlled_or_input}
use Rattle.msc_gather.specs.Marks.{is_marked}
use Rattle.msc_gather.proofs.marking.has_output.Goals as goal

pub returns-then-is_controlled : goal.returns-then-is_controlled
returns-then-is_controlled c =
    let controlled = sym c.is_controlled.ensures ∙ c.if-is_controlled.true in (
      λ yes marked i. absurd
          (controlled_no_input c.args.w.now.chart.now.events c.args.r controlled i),
      λ has. refl,
    )

pub returns-else-not-marks-r : goal.returns-else-not-marks-r
returns-else-not-marks-r c =
    let same = ap (is_marked c.args.marks.now) c.other_end.ensures.value in (
      λ there marked i. sym same ∙ there,
      λ has. same ∙ elim (controlled_or_input c.args.w.now.chart.now.events c.args.r
          c.requires.known) [
            | inl controlled ↦ clash (c.is_controlled.ensures ∙ controlled) c.if-is_controlled.false
            | inr i ↦ has c.if-not-marks-r.false i
          ],
    )

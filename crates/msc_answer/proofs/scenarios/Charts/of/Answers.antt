use Rattle.std.proofs.Common.{length, take, sym, ap, subst, ◌∙◌}
use Rattle.msc_answer.proofs.FirstCharts.{first_charts}
use Rattle.msc_answer.specs.Charting.{with_chart, AreCharts}
use Rattle.msc_answer.proofs.scenarios.Charts.of.Goals as goal

pub invariant_of-result : goal.invariant_of-result
invariant_of-result c =
    let drawn = c.take_first-drawn.result.items in let same = sym c.take_first-drawn.ensures.same in (
      subst AreCharts same c.requires,
      first_charts (with_chart c.args.file.now) c.take_first-drawn.new.self drawn c.in-Ok.first.items (c.take_first-drawn.ensures.first ∙ ap (take (length drawn)) same) c.in-Ok.ensures,
    )

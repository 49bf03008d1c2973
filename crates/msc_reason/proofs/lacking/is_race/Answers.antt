use Rattle.std.proofs.lemmas.Bool.{not-true, not_from_false, false_from_ne_true}
use Rattle.msc_chart.proofs.ListLemmas.{clash}
use Rattle.msc_reason.proofs.lacking.is_race.Goals as goal

pub returns-then-before : goal.returns-then-before
returns-then-before c =
    let drawn = rw c.chart.ensures at c.before-2.ensures in (
      λ free. (drawn.0 c.if-before.true, λ held. clash (c.holds.ensures.exact.1 held) (not-true _ free)),
      λ race. not_from_false _ (false_from_ne_true _ (λ held. race.1 (c.holds.ensures.exact.0 held))),
    )

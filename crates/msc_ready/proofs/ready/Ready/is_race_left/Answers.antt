use Rattle.std.proofs.Common.{refl}
use Rattle.msc_ready.proofs.Shared.{clash}
use Rattle.msc_ready.proofs.ready.Ready.is_race_left.Goals as goal

pub returns-then-not-before : goal.returns-then-not-before
returns-then-not-before c =
    let told = rw c.chart-chart.ensures at c.before-2.ensures in
    (λ h. clash h refl, λ race. clash (told.1 race.0) c.if-not-before.true)

use Rattle.std.proofs.Common.{false, refl, ap, ◌∙◌}
use Rattle.msc_ready.specs.Held.{wiring_of, ready_in}
use Rattle.msc_ready.proofs.Shared.{clash}
use Rattle.msc_ready.proofs.Holding.{awaited_when, awaited_not}
use Rattle.msc_ready.proofs.ready.Ready.is_awaited.Goals as goal

pub returns-then-not-above : goal.returns-then-not-above
returns-then-not-above c =
    let self = c.args.self.now in
    let told = rw c.chart-chart.ensures at c.before-above.ensures in
    awaited_not (wiring_of self) (ready_in self) c.args.e c.args.f false refl (λ h. clash (told.1 h) c.if-not-above.true)

pub returns : goal.returns
returns c =
    let self = c.args.self.now in
    let told = rw c.chart-chart.ensures at c.before-above.ensures in
    let line = rw c.chart-chart.ensures at c.instance_of.ensures in
    awaited_when (wiring_of self) (ready_in self) c.args.e c.args.f _ (told.0 c.if-not-above.false) (c.is_ready.ensures ∙ ap (ready_in self) line)

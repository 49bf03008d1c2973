use Rattle.std.proofs.Common.{◌<◌, length, sym, subst}
use Rattle.msc_chart.proofs.Drawn.{before_parts}
use Rattle.msc_chart.specs.Drawings.{Drawing}
use Rattle.msc_draw.proofs.reversing.draw_run.Goals as goal

pub run_scene-requires-clause-known : goal.run_scene-requires-clause-known
run_scene-requires-clause-known c =
    subst (λ (d : Drawing). c.args.race.0 < length d.events) (sym c.wiring-wiring.ensures.chart)
    (before_parts c.args.enforced.now.chart.events c.args.race.0 c.args.race.1 c.requires.race.0).0

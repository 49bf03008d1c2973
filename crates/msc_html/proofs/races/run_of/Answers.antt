use Rattle.std.proofs.Common.{◌<◌, length, subst, sym, ap, ◌∙◌}
use Rattle.msc_chart.proofs.Drawn.{before_parts}
use Rattle.msc_chart.specs.Drawings.{Drawing}
use Rattle.msc_html.specs.Progress.{judged}
use Rattle.msc_race.specs.Wired.{EnforcedChart}
use Rattle.msc_html.proofs.races.run_of.Goals as goal

pub run_scene-requires-clause-known : goal.run_scene-requires-clause-known
run_scene-requires-clause-known c =
    let e = judged c.args.source.now in
    subst (λ (d : Drawing). c.args.told.first < length d.events)
    (sym (c.wiring-wiring.ensures.chart ∙ ap (λ (x : EnforcedChart). x.chart) c.enforced-enforced.ensures))
    (before_parts e.chart.events c.args.told.first c.args.told.second c.requires.race.0).0

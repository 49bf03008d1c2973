use Rattle.std.proofs.Common.{sym, ap, ◌∙◌, subst}
use Rattle.std.proofs.lemmas.Result.{IfOk-weaker}
use Rattle.msc_chart.specs.Drawings.{Drawing}
use Rattle.msc_race.specs.Views.{wiring_of}
use Rattle.msc_race.specs.Wired.{EnforcedChart}
use Rattle.msc_race.proofs.Runs.RunEvents.{run_events}
use Rattle.msc_judge.proofs.rows.RaceRows.run_line.Goals as goal

pub run_line-requires-clause-fits : goal.run_line-requires-clause-fits
run_line-requires-clause-fits g c =
    subst (g.R.Renderer.fits c.args.self.now.renderer.now) (sym (c.chart.ensures ∙ ap (λ (x : EnforcedChart). x.chart) c.enforced.ensures)) c.requires.fits

-- the events of a run are events of the chart
pub run_line-requires-clause-events : goal.run_line-requires-clause-events
run_line-requires-clause-events g c =
    rw (c.chart.ensures, c.enforced.ensures) (run_events (wiring_of c.args.self.now.listing.now.judged) _ c.requires.run)

pub returns : goal.returns
returns g c =
    let chart = c.chart.ensures ∙ ap (λ (x : EnforcedChart). x.chart) c.enforced.ensures in
    IfOk-weaker c.run_line.result _ _
    (λ line made. made ∙ ap (λ (d : Drawing). g.R.Renderer.run_text c.args.self.now.renderer.now d c.args.run.now) chart) c.run_line.ensures

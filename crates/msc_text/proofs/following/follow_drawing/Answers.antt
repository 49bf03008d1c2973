use Rattle.std.proofs.Common.{ap, sym, subst, ◌∙◌}
use Rattle.msc_chart.specs.Orders.{wired}
use Rattle.msc_race.proofs.Runs.RunEvents.{run_events}
use Rattle.msc_reason.specs.Named.{AreEventsOf}
use Rattle.msc_report.specs.Following.{ring_steps, AreStepsOf}
use Rattle.msc_text.proofs.Barred.{ring_known, steps_known}
use Rattle.msc_text.proofs.following.follow_drawing.Goals as goal

-- a run is one of events of the chart
pub follows_page-requires : goal.follows_page-requires
follows_page-requires c =
    let follows = rw c.in-Follows.is at c.in_ok-run.ensures in
    subst (AreEventsOf c.args.chart.now) (sym c.as_slice.ensures.value) (run_events (wired c.args.queues c.args.chart.now) c.in-Follows.run'.items follows.drawn.run)

-- and so is a ring
pub never_page-requires : goal.never_page-requires
never_page-requires c =
    let never = rw c.in-Never.is at c.in_ok-run.ensures in
    let steps = c.as_slice-in-Never-2.ensures.value ∙ c.in_ok-steps-in-Never.ensures ∙ ap ring_steps c.as_slice-in-Never.ensures.value in
    subst (AreStepsOf c.args.chart.now) (sym steps) (steps_known c.args.chart.now c.in-Never.ring.items (ring_known c.args.chart.now c.args.queues c.in-Never.ring.items never.0))

use Rattle.msc_chart.specs.Orders.{wired}
use Rattle.msc_gather.proofs.ScheduleLemmas.{exactly}
use Rattle.msc_gather.proofs.laws.runs_with_these_lines_are_schedules.Goals as goal

pub returns : goal.returns
returns c = λ queues d accepted logs events.
    exactly (wired queues d) _ logs events (c.charts_are_seated.ensures queues d accepted)

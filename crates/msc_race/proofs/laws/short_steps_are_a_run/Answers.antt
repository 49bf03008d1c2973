use Rattle.msc_chart.specs.Orders.{wired}
use Rattle.msc_race.proofs.Pasts.ShortWitnesses.{short_steps}
use Rattle.msc_race.proofs.laws.short_steps_are_a_run.Goals as goal

pub returns : goal.returns
returns c = λ queues d. short_steps (wired queues d)

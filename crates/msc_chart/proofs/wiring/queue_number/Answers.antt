use Rattle.std.proofs.Common.{ap, ◌∙◌}
use Rattle.msc_chart.specs.declared.queue.LinkKind.{LinkKind}
use Rattle.msc_chart.specs.Orders.{number_among, queue_number}
use Rattle.msc_chart.proofs.wiring.queue_number.Goals as goal

pub returns-in-Uniform : goal.returns-in-Uniform
unfolding queue_number
returns-in-Uniform c = rw c.in-Uniform.is c.number_alone.ensures

pub returns-in-Mixed : goal.returns-in-Mixed
unfolding queue_number
returns-in-Mixed c =
    rw c.in-Mixed.is
    (c.number_among.ensures
    ∙ ap (λ (kind : LinkKind). number_among kind c.args.instances c.args.sender c.args.receiver c.args.m) c.kind-kind.ensures)

use Rattle.msc_chart.specs.Orders.{wired}
use Rattle.msc_picture.proofs.RunLaws.{picture_run}
use Rattle.msc_picture.proofs.laws.drawn_runs_are_runs.Goals as goal

pub returns : goal.returns
returns c = λ queues d ranks run order accepted steps whole drawn.
    picture_run (wired queues d) ranks run order (c.ends_share_queues.ensures queues d accepted)
    (λ r u p q same. c.inputs_share_lines.ensures queues d r u accepted p q same) steps whole drawn

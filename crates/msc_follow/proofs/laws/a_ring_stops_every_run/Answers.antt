use Rattle.msc_follow.proofs.Drawings.{ring_stops}
use Rattle.msc_follow.proofs.laws.a_ring_stops_every_run.Goals as goal

pub returns : goal.returns
returns c = λ queues d accepted.
    ring_stops c.ready_runs_keep_ready_lines.ensures.all queues d c.some_run_is_whole.ensures accepted (c.ends_share_queues.ensures queues d accepted)

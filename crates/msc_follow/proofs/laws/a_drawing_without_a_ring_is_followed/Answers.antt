use Rattle.msc_follow.proofs.Drawings.{followed_without}
use Rattle.msc_follow.proofs.laws.a_drawing_without_a_ring_is_followed.Goals as goal

pub returns : goal.returns
returns c = λ queues d accepted.
    followed_without c.ready_runs_keep_ready_lines.ensures.all queues d c.some_run_is_whole.ensures accepted (c.ends_share_queues.ensures queues d accepted)

use Rattle.msc_chart.specs.Orders.{wired}
use Rattle.msc_ready.proofs.Runs.Final.{final, lined_of}
use Rattle.msc_ready.proofs.laws.a_blocked_pair_is_final.Goals as goal

pub returns : goal.returns
returns c = λ queues d accepted ready e f blocked_pair events run reverses on.
    final (wired queues d) (c.ends_share_queues.ensures queues d accepted) ready e f (lined_of (wired queues d) ready e f blocked_pair) events on.0 on.1 reverses on.2

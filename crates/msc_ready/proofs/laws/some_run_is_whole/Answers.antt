use Rattle.msc_chart.specs.Orders.{wired}
use Rattle.msc_ready.proofs.Runs.Keeping.{HaveOneLine}
use Rattle.msc_ready.proofs.Runs.Whole.{finishes, no_ring}
use Rattle.msc_ready.proofs.laws.some_run_is_whole.Goals as goal

pub returns : goal.returns
returns c = λ queues d accepted ready.
    let is_wired = c.ends_share_queues.ensures queues d accepted in
    let lines : HaveOneLine (wired queues d) = λ r u ir iu. c.inputs_share_lines.ensures queues d r u accepted ir iu in
    (no_ring (wired queues d) is_wired lines ready, finishes (wired queues d) is_wired lines ready)

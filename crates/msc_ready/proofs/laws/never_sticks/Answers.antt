use Rattle.msc_chart.specs.Orders.{wired}
use Rattle.msc_ready.proofs.Runs.Keeping.{HaveOneLine}
use Rattle.msc_ready.proofs.Runs.Sticking.{goes_on, none_where_all_go_on}
use Rattle.msc_ready.proofs.laws.never_sticks.Goals as goal

pub returns : goal.returns
returns c = λ queues d accepted ready.
    let is_wired = c.ends_share_queues.ensures queues d accepted in
    let lines : HaveOneLine (wired queues d) = λ r u ir iu. c.inputs_share_lines.ensures queues d r u accepted ir iu in (
      goes_on (wired queues d) is_wired lines accepted.acyclic ready,
      none_where_all_go_on (wired queues d) is_wired lines accepted.acyclic ready,
    )

use Rattle.msc_ready.specs.Held.{wiring_of, ready_in}
use Rattle.msc_ready.proofs.Runs.Keeping.{HaveOneLine}
use Rattle.msc_ready.proofs.Holding.{blocked_pair_exact}
use Rattle.msc_ready.proofs.ready.Ready.blocked_pairs_are_told.Goals as goal

pub returns : goal.returns
returns c = λ e f.
    let self = c.args.self.now in
    let accepted = c.facts.ensures.chart in
    let lines : HaveOneLine (wiring_of self) = λ r u ir iu. c.inputs_share_lines.ensures self.queues self.chart r u accepted ir iu in
    blocked_pair_exact (wiring_of self) (ready_in self) self.order (c.ends_share_queues.ensures self.queues self.chart accepted) lines
    c.facts.ensures.order.visual e f

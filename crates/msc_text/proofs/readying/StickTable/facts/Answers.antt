use Rattle.std.proofs.Common.{subst}
use Rattle.msc_chart.specs.Drawings.{Drawing}
use Rattle.msc_ready.specs.Held.{ready_in}
use Rattle.msc_ready.specs.Rounds.{between_of, AreBetween}
use Rattle.msc_text.proofs.readying.StickTable.facts.Goals as goal

pub returns : goal.returns
returns c =
    let r = c.args.self.now.blocked_pairs in
    let accepted = rw c.ready.ensures at c.facts-2.ensures.chart in
    let runs = c.each_first_blocked_pair_has_one_run.ensures.exists r.queues r.chart accepted (ready_in r) in
    record {
      visual = rw c.ready.ensures at c.facts-2.ensures.order;
      blocked_pairs = subst (λ (d : Drawing). AreBetween r d (between_of r d)) c.args.names.same c.facts-3.ensures.exact;
      runs = runs.0;
      are_runs = runs.1;
    }

use Rattle.msc_chart.specs.Orders.{wired}
use Rattle.msc_ready.proofs.Runs.OneRun.{one_blocked_pair_run, blocked_pair_runs}
use Rattle.msc_ready.proofs.laws.each_first_blocked_pair_has_one_run.Goals as goal

pub returns : goal.returns
returns c = record {
  exists = λ queues d accepted ready. blocked_pair_runs (wired queues d) (c.ends_share_queues.ensures queues d accepted)
      (λ r u ir iu. c.inputs_share_lines.ensures queues d r u accepted ir iu) accepted.acyclic ready;
  unique = λ queues d ready e g f xs ys h k. one_blocked_pair_run (wired queues d) ready e g f xs ys h k;
}

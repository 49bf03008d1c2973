use Rattle.msc_chart.specs.declared.queue.LinkKind.TheVariants.{Single}
use Rattle.msc_chart.specs.declared.queue.Queues.TheVariants.{Uniform}
use Rattle.msc_follow.proofs.Drawings.{followed, none_ahead, none_closed}
use Rattle.msc_follow.proofs.laws.every_drawing_is_followed_under_single.Goals as goal

pub returns : goal.returns
returns c = record {
  ahead = none_ahead;
  follows = λ d accepted.
      let is_wired = c.ends_share_queues.ensures (Uniform Single) d accepted in
      followed c.ready_runs_keep_ready_lines.ensures.all (Uniform Single) d c.some_run_is_whole.ensures accepted is_wired (none_closed d accepted is_wired);
}

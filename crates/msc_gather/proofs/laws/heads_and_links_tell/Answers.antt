use Rattle.msc_chart.specs.Orders.{wired}
use Rattle.msc_gather.proofs.HeadLemmas.{head_of_follower, head_follows}
use Rattle.msc_gather.proofs.laws.heads_and_links_tell.Goals as goal

pub returns : goal.returns
returns c = record {
  head = λ queues d accepted logs sound past steps x k front may.
      let seat = (c.charts_are_seated.ensures queues d accepted).on_lines x may.event in
      head_of_follower (wired queues d) _ logs sound past steps x k seat front may;
  link = λ queues d accepted logs sound past steps.
      head_follows (wired queues d) _ logs sound past steps;
}

use Rattle.std.proofs.Common.{rules}
use Rattle.msc_chart.specs.Wirings.{wired_by}
use Rattle.msc_gather.proofs.TakenLemmas.{taken_begins}
use Rattle.msc_gather.proofs.linking.TakenSoFar.start.Goals as goal

pub returns : goal.returns
returns c =
    let last = c.in_ok-vec.ensures.items_if_clones_equal (λ y e. search rules) in
    let before = c.in_ok-vec-2.ensures.items_if_clones_equal (λ y e. search rules) in
    taken_begins (wired_by c.args.w.now) _ _ c.queue_count.result
    (rw c.events.ensures.number at before) last
    c.queue_count.ensures.past

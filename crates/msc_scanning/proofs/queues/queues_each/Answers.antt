use Rattle.std.proofs.Common.{◌+◌, List, drop, inr, subst, sym}
use Rattle.std.proofs.lemmas.List.{drop_more}
use Rattle.std.proofs.lemmas.Result.{err_from_is_err_and}
use Rattle.msc_chart.specs.Drawings.{Drawing}
use Rattle.msc_chart.specs.declared.queue.Queues.{Queues}
use Rattle.msc_scanning.specs.Queued.{with_queues, AreQueues}
use Rattle.msc_scanning.specs.declared.words.Architecture.{Architecture}
use Rattle.msc_scanning.proofs.queues.queues_each.Goals as goal

pub returns-in_err-queues-clause-refused : goal.returns-in_err-queues-clause-refused
returns-in_err-queues-clause-refused c =
    let p = err_from_is_err_and c.from_residual.result c.from_residual.ensures.1 in rw (p.1, p.2) (inr (_, c.in_err-queues.ensures))

pub loop-architecture-preserved : goal.loop-architecture-preserved
loop-architecture-preserved c =
    let l = c.loop-architecture in let links = c.args.links in let of = c.args.linked in let all = c.args.architectures.now in
    let others = drop (l.architecture-index + 1) all in let one = c.in_ok-queues.queues in
    λ queues rest. l.invariant queues
    (subst (λ (left : List Architecture). AreQueues links of left l.found.items queues) (sym (drop_more all l.architecture-index _ c.loop-architecture-test.true)) (
      one,
      c.in_ok-queues.ensures,
      subst (λ (d : Drawing). AreQueues links of others (with_queues d l.found.items one) queues) c.chart.ensures
          (subst (λ (found : List Queues). AreQueues links of others found queues) c.in_ok-put_queues.ensures rest),
    ))

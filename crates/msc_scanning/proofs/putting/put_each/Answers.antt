use Rattle.msc_scanning.proofs.Printed.{each_more, none_each}
use Rattle.msc_scanning.proofs.putting.put_each.Goals as goal

pub returns-in_default : goal.returns-in_default
returns-in_default g c = none_each g.O.Write.contents c.args.plan c.args.target c.args.silent c.args.queues.now c.args.output.now c.in_default.ensures.cases c.unseen-seen.result c.unseen-seen.ensures

pub returns-in-Ok : goal.returns-in-Ok
returns-in-Ok g c =
    each_more g.O.Write.contents c.args.plan c.args.target c.args.silent c.in-Some.first.now c.in-Some.rest.now c.args.queues.now c.in-Some.ensures.cases.0
    c.unseen-seen.result c.unseen-seen.ensures c.in_ok-verdict.verdict c.with_verdict-seen.result c.with_verdict-seen.ensures
    c.args.output.now c.put_verdict.new.output c.put_rest.new.output c.in_ok-verdict.ensures c.in-Ok.seen c.in-Ok.ensures.printed

use Rattle.msc_scanning.proofs.Printed.{quiet_so}
use Rattle.msc_scanning.proofs.putting.put_verdict.Goals as goal

pub returns-then-plan : goal.returns-then-plan
returns-then-plan g c =
    quiet_so g.O.Write.contents c.args.plan c.args.target c.args.queues c.args.shown c.quiet_verdict.result c.args.output.now c.if-plan.true c.quiet_verdict.ensures

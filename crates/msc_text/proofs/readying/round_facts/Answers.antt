use Rattle.std.proofs.Common.{[], refl}
use Rattle.msc_text.specs.Readying.{again_text}
use Rattle.msc_text.proofs.Readied.{prints_between}
use Rattle.msc_text.proofs.readying.round_facts.Goals as goal

pub returns-in-Some : goal.returns-in-Some
returns-in-Some c queues only are more format =
    let d = c.args.names.chart.now in
    let table = c.in-Some.table in
    let r = table.blocked_pairs in
    let facts = c.facts.ensures in
    let its = rw c.in-Some.is at are in
    rw c.in-Some.is (
      again_text format d r table.ahead.items facts.runs more,
      (facts.runs, facts.are_runs, refl),
      prints_between d queues only more format r table.ahead.items facts.runs its.0 facts.visual facts.blocked_pairs its.1.ahead facts.are_runs,
    )

pub returns-in-None : goal.returns-in-None
returns-in-None c queues only are more format = rw c.in-None.is ([], refl, (refl, refl))

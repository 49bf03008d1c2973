use Rattle.std.proofs.Common.{arith}
use Rattle.msc_instance.proofs.Runs.{line_room}
use Rattle.msc_instance.proofs.threads.prepare.Goals as goal

pub returns-clause-ready : goal.returns-clause-ready
returns-clause-ready c =
    let enough = line_room c.args.chart.now c.args.number c.line-first.result.0 c.line-first.result.1 c.line-first.ensures.range in
    record {
      known = c.requires.known;
      fit = rw c.in_ok-new.ensures.ok c.requires.fit;
      empty = c.in_ok-log.ensures.items;
      room = omega (arith, enough, c.in_ok-log.ensures.capacity, c.saturating_sub.ensures);
    }

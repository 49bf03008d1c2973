use Rattle.std.proofs.Common.{◌≡◌, length, arith}
use Rattle.msc_chart.specs.Orders.{wired}
use Rattle.msc_follow.proofs.AllLines.{all_lines}
use Rattle.msc_follow.proofs.InTurn.{finishing_follows}
use Rattle.msc_follow.proofs.Drawings.{finish_of}
use Rattle.msc_follow.proofs.following.following_run.Goals as goal

pub returns-then-len-events : goal.returns-then-len-events
returns-then-len-events c =
    let d = c.args.chart.now in
    let ready = c.in_ok-ready.ensures in
    let found = c.in_ok-run.ensures in
    let run = c.in_ok-run.run'.items in
    let is_wired = c.ends_share_queues.ensures c.args.queues d c.facts.ensures in
    let finished = all_lines c.args.queues d c.in_ok-ready.ready run ready.chart ready.queues ready.lines
    (record { run = found.run; ready = found.ready; all = found.all; whole = found.whole }) in
    let both = (c.ready_runs_keep_ready_lines.ensures.all c.args.queues d run).0 finished.ready in
    let many : length run ≡ length d.events = omega (arith, c.in_ok-run.run'.ok, c.len.ensures, c.if-len-events.true, c.events.ensures.number) in
    record {
      drawn = record { run = both.0; whole = finished.all.0 many; keeps = both.1 };
      least = finishing_follows (wired c.args.queues d) is_wired run finished.run;
    }

-- if some whole run keeps the drawn order, this run has all events
pub returns : goal.returns
returns c = λ events drawn.
    let d = c.args.chart.now in
    let ready = c.in_ok-ready.ensures in
    let found = c.in_ok-run.ensures in
    let finished = all_lines c.args.queues d c.in_ok-ready.ready c.in_ok-run.run'.items ready.chart ready.queues ready.lines
    (record { run = found.run; ready = found.ready; all = found.all; whole = found.whole }) in
    let whole = finished.whole.1 (finish_of c.ready_runs_keep_ready_lines.ensures.all c.args.queues d (events, drawn)) in
    c.if-len-events.false (omega (arith, c.in_ok-run.run'.ok, c.len.ensures, finished.all.1 whole, c.events.ensures.number))

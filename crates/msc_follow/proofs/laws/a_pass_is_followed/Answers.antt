use Rattle.std.proofs.Common.{[]}
use Rattle.msc_follow.proofs.laws.a_pass_is_followed.Goals as goal

pub returns : goal.returns
returns c = λ queues d accepted none.
    let whole = c.no_run_is_stuck.ensures.whole queues d accepted [] tt in
    (whole.0, record { run = whole.1; whole = whole.2; keeps = (c.races_are_what_runs_reverse.ensures.none queues d accepted).0 none whole.0 whole.1 })

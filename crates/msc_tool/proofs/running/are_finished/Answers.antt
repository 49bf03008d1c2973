use Rattle.std.proofs.Common.{◌≡◌, false, below_more, rules}
use Rattle.msc_tool.proofs.running.are_finished.Goals as goal

pub loop-i-preserved : goal.loop-i-preserved
loop-i-preserved c =
    let same : c.ne.result ≡ false = cc in
    below_more _ _ c.loop-i.invariant (search rules)

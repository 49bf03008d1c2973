use Rattle.msc_gather.proofs.Wholes.{seated}
use Rattle.msc_gather.proofs.laws.charts_are_seated.Goals as goal

pub returns : goal.returns
returns c = seated c.ends_share_queues.ensures c.inputs_share_lines.ensures

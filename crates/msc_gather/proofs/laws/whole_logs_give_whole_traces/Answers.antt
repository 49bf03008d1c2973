use Rattle.msc_gather.proofs.Wholes.{whole}
use Rattle.msc_gather.proofs.laws.whole_logs_give_whole_traces.Goals as goal

pub returns : goal.returns
returns c = whole

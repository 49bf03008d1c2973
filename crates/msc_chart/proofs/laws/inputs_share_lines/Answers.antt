use Rattle.msc_chart.proofs.QueueLemmas.{inputs_share}
use Rattle.msc_chart.proofs.laws.inputs_share_lines.Goals as goal

pub returns : goal.returns
returns c = λ queues d r u accepted. inputs_share queues d accepted r u

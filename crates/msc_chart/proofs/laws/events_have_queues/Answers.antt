use Rattle.msc_chart.proofs.QueueLemmas.{event_queue}
use Rattle.msc_chart.proofs.laws.events_have_queues.Goals as goal

pub returns : goal.returns
returns c = λ queues d e accepted within away. event_queue queues d accepted e within away

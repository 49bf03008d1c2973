use Rattle.msc_answer.proofs.Linking.{linked_first, one_of_charts}
use Rattle.msc_answer.proofs.links.queues_of_diagram.Goals as goal

pub queues_of_drawn-requires : goal.queues_of_drawn-requires
queues_of_drawn-requires c = one_of_charts c.args.scenarios.now c.requires _ c.in_ok-drawn.ensures.given

pub returns : goal.returns
returns c = linked_first c.args.usual c.args.words c.args.text.now c.args.scenarios.now _ c.in_ok-drawn.ensures.given c.queues_of_drawn.result c.queues_of_drawn.ensures

use Rattle.msc_order.proofs.closing.leads.Goals as goal

pub returns-else-inputs : goal.returns-else-inputs
returns-else-inputs c = rw c.if-inputs.false cc

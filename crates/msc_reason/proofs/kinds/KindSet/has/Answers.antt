use Rattle.msc_reason.proofs.kinds.KindSet.has.Goals as goal

pub returns-in-Early : goal.returns-in-Early
returns-in-Early c = rw c.in-Early.is

pub returns-in-Queues : goal.returns-in-Queues
returns-in-Queues c = rw c.in-Queues.is

pub returns-in-Unordered : goal.returns-in-Unordered
returns-in-Unordered c = rw c.in-Unordered.is

pub returns-in-Overtaken : goal.returns-in-Overtaken
returns-in-Overtaken c = rw c.in-Overtaken.is

use Rattle.std.proofs.Common.{refl}
use Rattle.msc_chart.specs.Architectures.{kind_of}
use Rattle.msc_chart.proofs.queue.Queues.kind.Goals as goal

pub returns-in-Uniform : goal.returns-in-Uniform
unfolding kind_of
returns-in-Uniform c = rw c.in-Uniform.is refl

pub returns-in-Mixed : goal.returns-in-Mixed
unfolding kind_of
returns-in-Mixed c = rw c.in-Mixed.is c.kind.ensures

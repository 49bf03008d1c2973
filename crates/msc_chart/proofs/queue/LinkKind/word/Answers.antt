use Rattle.std.proofs.Common.{refl}
use Rattle.msc_chart.proofs.queue.LinkKind.word.Goals as goal

pub returns-in-Pair : goal.returns-in-Pair
returns-in-Pair c = rw c.in-Pair.is refl

use Rattle.std.proofs.Common.{refl}
use Rattle.msc_chart.proofs.fault.ChartFaultFromAllocError.from.Goals as goal

pub returns : goal.returns
returns c = refl

use Rattle.std.proofs.Common.{refl}
use Rattle.msc_report.proofs.fault.FaultFromIoError.from.Goals as goal

pub returns : goal.returns
returns c = refl

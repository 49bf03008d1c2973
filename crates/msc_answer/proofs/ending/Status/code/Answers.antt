use Rattle.std.proofs.Common.{refl}
use Rattle.msc_answer.proofs.ending.Status.code.Goals as goal

pub returns-in-Refused : goal.returns-in-Refused
returns-in-Refused c = rw c.in-Refused.is refl

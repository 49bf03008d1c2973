use Rattle.std.proofs.Common.{refl}
use Rattle.listed.proofs.Listed.from_vec.Goals as goal

pub returns : goal.returns
returns g c = refl

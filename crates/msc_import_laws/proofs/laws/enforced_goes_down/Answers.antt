use Rattle.msc_import_laws.proofs.Imports.{scenario_enforced, scenario_visual}
use Rattle.msc_import_laws.proofs.laws.enforced_goes_down.Goals as goal

pub returns : goal.returns
returns c = record {
  enforced = λ how manner text d given draft queues e f is h. scenario_enforced how manner text d given draft is queues e f h;
  visual = λ how manner text d given draft e f is h. scenario_visual how manner text d given draft is e f h;
}

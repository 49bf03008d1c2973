use Rattle.std.proofs.Common.{◌+◌}
use Rattle.msc_mermaid.specs.declared.TheConstants.{DEPTH_LIMIT}
use Rattle.msc_scenarios.proofs.AscendLemmas.{in_order}
use Rattle.msc_scenarios.proofs.laws.each_once_in_order.Goals as goal

pub returns : goal.returns
returns c = λ rounds d rising. in_order rounds rising (DEPTH_LIMIT + 1) d.statements

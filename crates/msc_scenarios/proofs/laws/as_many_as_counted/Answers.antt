use Rattle.std.proofs.Common.{◌+◌}
use Rattle.msc_mermaid.specs.declared.TheConstants.{DEPTH_LIMIT}
use Rattle.msc_scenarios.proofs.ManyLemmas.{as_many}
use Rattle.msc_scenarios.proofs.laws.as_many_as_counted.Goals as goal

pub returns : goal.returns
returns c = λ rounds d. as_many (DEPTH_LIMIT + 1) rounds d.statements

use Rattle.std.proofs.Common.{◌+◌}
use Rattle.msc_mermaid.specs.declared.TheConstants.{DEPTH_LIMIT}
use Rattle.msc_scenarios.proofs.AscendLemmas.{in_order}
use Rattle.msc_scenarios.proofs.HistoryListLemmas.{history_listed, listed_history}
use Rattle.msc_scenarios.proofs.laws.each_path_once.Goals as goal

pub returns : goal.returns
returns c = λ rounds d.
    ((λ given. (listed_history rounds d given, λ h. history_listed rounds d given h.0 h.1)), λ rising. in_order rounds rising (DEPTH_LIMIT + 1) d.statements)

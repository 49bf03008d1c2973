use Rattle.msc_scenarios.proofs.HistoryWalkLemmas.{history_walked, walked_history}
use Rattle.msc_scenarios.proofs.laws.just_what_is_met.Goals as goal

pub returns : goal.returns
returns c = record { met = history_walked; none_else = λ rounds d given full t. walked_history rounds d given t full }

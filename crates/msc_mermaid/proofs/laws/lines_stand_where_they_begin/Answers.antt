use Rattle.msc_mermaid.proofs.StandLemmas.{lines_stand}
use Rattle.msc_mermaid.proofs.laws.lines_stand_where_they_begin.Goals as goal

pub returns : goal.returns
returns c = λ text. lines_stand text

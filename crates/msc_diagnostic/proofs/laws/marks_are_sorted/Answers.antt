use Rattle.msc_diagnostic.proofs.SortingLemmas.{sorted_lem}
use Rattle.msc_diagnostic.proofs.laws.marks_are_sorted.Goals as goal

pub returns : goal.returns
returns c = sorted_lem

use Rattle.msc_reason.proofs.PairLemmas.{none_has}
use Rattle.msc_reason.proofs.pairs.Pairs.none.Goals as goal

pub returns-clause-none : goal.returns-clause-none
returns-clause-none c = none_has c.args.events c.in_ok-cells.cells.items c.in_ok-cells.ensures.none

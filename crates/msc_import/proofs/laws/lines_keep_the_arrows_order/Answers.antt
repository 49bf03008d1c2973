use Rattle.msc_import.proofs.OrderLemmas.{line_has}
use Rattle.msc_import.proofs.TogetherLemmas.{line_planned}
use Rattle.msc_import.proofs.laws.lines_keep_the_arrows_order.Goals as goal

pub returns : goal.returns
returns c =
    λ manner names line ident ps ss lines plans p e at. line_has manner names line ss p (line_planned manner ss lines plans line p e at)

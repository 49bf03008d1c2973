use Rattle.msc_links.proofs.Orderings.{same_kinds}
use Rattle.msc_links.proofs.laws.order_does_not_matter.Goals as goal

pub returns : goal.returns
returns c = same_kinds

use Rattle.msc_links.proofs.Orderings.{each_counts}
use Rattle.msc_links.proofs.laws.each_rule_counts.Goals as goal

pub returns : goal.returns
returns c = each_counts

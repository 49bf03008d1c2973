use Rattle.msc_chart.proofs.MatchingLemmas.{unknown_test}
use Rattle.msc_chart.proofs.check.is_unknown.Goals as goal

pub returns : goal.returns
returns c = unknown_test c.args.instances.now.keys _ _ c.contains.ensures

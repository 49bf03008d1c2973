use Rattle.msc_source.proofs.OneWay.{one_draft_way, one_way}
use Rattle.msc_source.proofs.laws.texts_are_read_in_one_way.Goals as goal

pub returns-clause-charts : goal.returns-clause-charts
returns-clause-charts c = one_way c.one_parsing.ensures

pub returns-clause-drafts : goal.returns-clause-drafts
returns-clause-drafts c = one_draft_way c.one_parsing.ensures

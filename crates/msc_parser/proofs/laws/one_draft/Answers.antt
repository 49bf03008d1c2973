use Rattle.msc_parser.proofs.OneChart.{one_chart}
use Rattle.msc_parser.proofs.laws.one_draft.Goals as goal

pub returns : goal.returns
returns c = one_chart

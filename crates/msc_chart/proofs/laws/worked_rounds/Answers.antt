use Rattle.msc_chart.proofs.RoundRows.{actions_unrolled, texts_unrolled, coregion_unrolled}
use Rattle.msc_chart.proofs.laws.worked_rounds.Goals as goal

pub returns : goal.returns
returns c = record { events = actions_unrolled; texts = texts_unrolled; drawn = coregion_unrolled }

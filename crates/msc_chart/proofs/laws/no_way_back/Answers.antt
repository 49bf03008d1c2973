use Rattle.msc_chart.proofs.RoundLawProofs.{no_way_back, no_visual_way_back}
use Rattle.msc_chart.proofs.laws.no_way_back.Goals as goal

pub returns : goal.returns
returns c = record { enforced = no_way_back; visual = no_visual_way_back }

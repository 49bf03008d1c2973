use Rattle.msc_svg.proofs.Apart.{axes_apart, rows_apart}
use Rattle.msc_svg.proofs.laws.axes_and_rows_stand_apart.Goals as goal

pub returns : goal.returns
returns c = record { axes = axes_apart; rows = rows_apart }

use Rattle.msc_chart.proofs.Precedence.{all_ready_is_visual, none_ready_is_enforced}
use Rattle.msc_chart.proofs.laws.orders_depend_on_ready_lines.Goals as goal

pub returns : goal.returns
returns c = record { none = none_ready_is_enforced; all = all_ready_is_visual }

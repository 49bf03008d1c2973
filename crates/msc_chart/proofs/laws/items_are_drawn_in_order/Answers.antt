use Rattle.msc_chart.proofs.ItemLemmas.{drawn_by_items, each_has_an_event}
use Rattle.msc_chart.proofs.laws.items_are_drawn_in_order.Goals as goal

pub returns : goal.returns
returns c = record { order = drawn_by_items; each = each_has_an_event }

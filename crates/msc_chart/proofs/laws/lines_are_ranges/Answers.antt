use Rattle.msc_chart.proofs.Lines.{on_range, line_within}
use Rattle.msc_chart.proofs.laws.lines_are_ranges.Goals as goal

pub returns : goal.returns
returns c = record {
  ranges = λ d i accepted e within. on_range d.events accepted.in_text_order i e within;
  within = λ d i. line_within i d.events;
  rise = λ d e f accepted. accepted.in_text_order.rising e f;
}

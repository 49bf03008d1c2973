use Rattle.std.proofs.Common.{◌≡◌, map}
use Rattle.std.specs.List.{range_with_len}
use Rattle.msc_shown_chart.specs.Shown.{plain_event}
use Rattle.msc_shown_diagram.specs.Shown.{shown_at}
use Rattle.msc_shown_diagram.specs.Words.{plain_arrow}
use Rattle.msc_shown_diagram.proofs.words.DiagramWords.events.Given as goal

abbrev pub invariant-loop-e : goal.invariant-loop-e
invariant-loop-e l = map plain_event l.events.items ≡ map (shown_at l.chart l.queues (map plain_arrow l.words) l.arrows) (range_with_len 0 l.e)

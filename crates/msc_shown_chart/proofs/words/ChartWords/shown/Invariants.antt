use Rattle.std.proofs.Common.{◌≡◌, map, take}
use Rattle.std.specs.List.{enumerate_from}
use Rattle.msc_shown_chart.specs.Shown.{plain_event, shown_as}
use Rattle.msc_shown_chart.specs.Words.{plain_words}
use Rattle.msc_shown_chart.proofs.words.ChartWords.shown.Given as goal

abbrev pub invariant-loop-e : goal.invariant-loop-e
invariant-loop-e l = map plain_event l.shown.items
    ≡ map (λ at. shown_as l.chart l.queues at.1 at.0) (enumerate_from 0 (take l.e (map plain_words l.self.events.items)))

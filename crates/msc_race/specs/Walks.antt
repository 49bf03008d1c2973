-- Walks over the events of a chart.
use Rattle.std.specs.Prelude.{ℕ, ◌<◌, List}
use Rattle.msc_chart.specs.declared.event.ChartEvent.{ChartEvent}
use Rattle.msc_chart.specs.Charts.{IsLineEnd, IsSegmentEnd}
use Rattle.msc_race.specs.declared.racing.Walk.{Walk}

-- A walk has reached the events before e: where the end of its segment is past e, it is that of the
-- segment of e, and so with lines.
pub record HasReached (events : List ChartEvent) (e : ℕ) (walk : Walk) : Type 0 where
  pub segment : e < walk.segment_end → IsSegmentEnd events e walk.segment_end
  pub line : e < walk.line_end → IsLineEnd events e walk.line_end

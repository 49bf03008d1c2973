-- What is kept while the past of an event is put in an order.
use Rattle.std.specs.Prelude.{ℕ, ◌<◌, List, []}
use Rattle.msc_chart.specs.Lists.{Steps}
use Rattle.msc_race.specs.declared.choosing.Choice.{Choice}
use Rattle.msc_race.specs.declared.shortening.Shortening.{Shortening}
use Rattle.msc_race.specs.Beginnings.{HoldsLeft}
use Rattle.msc_race.specs.Choices.{wired_chart, event_count, IsChoice}
use Rattle.msc_race.specs.Fronts.{HoldsLines}
use Rattle.msc_race.specs.PastEvents.{IsTold}
use Rattle.msc_race.specs.QueuedRuns.{HoldsQueues}
use Rattle.msc_race.specs.Short.{IsShortNext}

-- the events so far
abbrev pub events_of : Shortening → List ℕ
events_of s = s.queued.run.items

-- events of the past that came as they come in the short witness, and what is known of the others
pub record IsShortening (c : Choice) (s : Shortening) : Type 0 where
  pub steps : Steps (IsShortNext (wired_chart c) c.e) [] (events_of s)
  pub lines : HoldsLines c.wiring.chart.now s.lines
  pub queues : HoldsQueues (wired_chart c) (events_of s) s.queued
  pub told : IsTold c s.needs s.lines.left.items
  pub left : HoldsLeft s.lines.left.items (λ y. y < event_count c) (events_of s)

-- so far, for the choice's event
pub record IsShortSoFar (c : Choice) (s : Shortening) : Type 0 where
  pub settled : IsChoice c
  pub kept : IsShortening c s

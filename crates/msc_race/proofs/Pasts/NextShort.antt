-- What is picked by the rows is what may come next for an event, and does not wait.
use Rattle.std.proofs.Common.{ℕ, ◌↔◌, length}
use Rattle.std.specs.Prelude.{IsTrue}
use Rattle.msc_chart.specs.Orders.{IsWired}
use Rattle.msc_race.specs.declared.choosing.Choice.{Choice}
use Rattle.msc_race.specs.declared.shortening.Shortening.{Shortening}
use Rattle.msc_race.specs.Choices.{wired_chart}
use Rattle.msc_race.specs.PastEvents.{IsReadyTo}
use Rattle.msc_race.specs.Rows.{is_masked}
use Rattle.msc_race.specs.Short.{MayComeFor}
use Rattle.msc_race.specs.Shortenings.{IsShortening, events_of}
use Rattle.msc_race.proofs.Making.BeginningLemmas.{picked}
use Rattle.msc_race.proofs.Making.ChoiceLemmas.{iff_trans}
use Rattle.msc_race.proofs.Pasts.ShortSteps.{ready_may}

module _ (choice : Choice) (s : Shortening) (kept : IsShortening choice s) (is_wired : IsWired (wired_chart choice)) where
  -- what is picked may come next for the choice's event, and nothing else
  pub short_picks : (y : ℕ) → IsTrue (is_masked s.lines.controlled s.queued.inputs s.needs.ready y)
      ↔ MayComeFor (wired_chart choice) choice.e (events_of s) y
  short_picks y =
      let chart = wired_chart choice in
      let left = s.lines.left.items in
      let count = length s.needs.spans.firsts.items in
      iff_trans
      (picked chart is_wired (events_of s) left s.lines.controlled s.queued.inputs kept.left kept.lines.controlled kept.queues.inputs
      s.needs.ready (IsReadyTo chart choice.e left count) kept.told.ready y)
      (ready_may chart choice.e (events_of s) left count kept.left kept.told.holds.spans.queues y)

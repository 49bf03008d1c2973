use Rattle.std.proofs.lemmas.Option.{IfSome_then}
use Rattle.msc_race.specs.Choices.{wired_chart}
use Rattle.msc_race.specs.Rows.{is_masked}
use Rattle.msc_race.specs.Short.{MayComeFor}
use Rattle.std.specs.Prelude.{IsTrue}
use Rattle.msc_race.specs.Shortenings.{events_of}
use Rattle.msc_race.proofs.Making.BeginningLemmas.{least_same}
use Rattle.msc_race.proofs.Making.NextLemmas.{IfNone_then}
use Rattle.msc_race.proofs.Pasts.NextShort.{short_picks}
use Rattle.msc_race.proofs.shortening.Shortening.next.Goals as goal

pub returns-clause-some : goal.returns-clause-some
returns-clause-some c choice asked =
    let s = c.args.self.now in
    let is_wired = c.ends_share_queues.ensures choice.wiring.queues choice.wiring.chart.now asked.settled.accepted in
    IfSome_then c.lowest.result (rw c.words.ensures at c.lowest.ensures.some)
    (least_same (λ y. IsTrue (is_masked s.lines.controlled s.queued.inputs s.needs.ready y))
    (MayComeFor (wired_chart choice) choice.e (events_of s)) (short_picks choice s asked.kept is_wired))

pub returns-clause-none : goal.returns-clause-none
returns-clause-none c choice asked =
    let is_wired = c.ends_share_queues.ensures choice.wiring.queues choice.wiring.chart.now asked.settled.accepted in
    IfNone_then c.lowest.result (rw c.words.ensures at c.lowest.ensures.none)
    (λ nothing y may. nothing y ((short_picks choice c.args.self.now asked.kept is_wired y).1 may))

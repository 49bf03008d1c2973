use Rattle.msc_race.specs.Choices.{wired_chart}
use Rattle.msc_race.specs.Short.{IsShortNext}
use Rattle.msc_race.specs.Shortenings.{events_of}
use Rattle.msc_race.proofs.Shared.{Steps-push}
use Rattle.msc_race.proofs.Making.BeginningLemmas.{left_after, on_ok}
use Rattle.msc_race.proofs.shortening.Shortening.occur.Goals as goal

pub returns-clause-kept : goal.returns-clause-kept
returns-clause-kept c =
    let choice = c.args.choice.now in
    let kept = c.requires.kept in
    let past = events_of c.args.self.now in
    on_ok c.occur-3.result _ _ _ (λ queues run. record {
      steps = rw run (Steps-push (IsShortNext (wired_chart choice) choice.e) past c.args.x kept.steps c.requires.next);
      lines = c.occur.ensures.kept;
      queues = queues;
      told = rw c.deref.ensures.value at c.occur-2.ensures;
      left = rw run (left_after _ _ _ past c.args.x kept.left c.occur.ensures.without);
    }) c.occur-3.ensures.queues c.occur-3.ensures.run

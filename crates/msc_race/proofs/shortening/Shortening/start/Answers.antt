use Rattle.msc_race.proofs.Making.BeginningLemmas.{all_at_first}
use Rattle.msc_race.proofs.shortening.Shortening.start.Goals as goal

pub returns : goal.returns
returns c =
    let run = c.in_ok-start-2.ensures.run in
    record {
      steps = rw run tt;
      lines = c.in_ok-lines.ensures.kept;
      queues = rw run c.in_ok-start-2.ensures.queues;
      told = rw c.deref.ensures.value at c.in_ok-start.ensures;
      left = rw run (all_at_first _ _ c.in_ok-lines.ensures.left);
    }

use Rattle.msc_chart.specs.Witness.{IsWitnessNext}
use Rattle.msc_race.specs.Choices.{wired_chart}
use Rattle.msc_race.specs.Beginnings.{run_of}
use Rattle.msc_race.proofs.Shared.{Steps-push}
use Rattle.msc_race.proofs.Making.BeginningLemmas.{left_after, on_ok}
use Rattle.msc_race.proofs.Making.RowLemmas.{apart_without}
use Rattle.msc_race.proofs.beginning.Beginning.occur.Goals as goal

pub returns-clause-kept : goal.returns-clause-kept
returns-clause-kept c =
    let choice = c.args.choice.now in
    let kept = c.requires.kept in
    let past = run_of c.args.self.now in
    let same = c.seek.ensures.same in
    on_ok c.occur-2.result _ _ _ (λ queues run. record {
      steps = rw run (Steps-push (IsWitnessNext (wired_chart choice) choice.e) past c.args.x kept.steps c.requires.next);
      lines = c.occur.ensures.kept;
      queues = queues;
      rows = record { free = rw same.free kept.rows.free; unheld = rw same.unheld kept.rows.unheld; passed = rw same.passed kept.rows.passed };
      told = record { free = rw same.free kept.told.free; unheld = rw same.unheld kept.told.unheld; passed = rw same.passed kept.told.passed };
      first = rw c.deref.ensures.value at c.seek.ensures.first;
      left = rw run (left_after _ _ _ past c.args.x kept.left c.occur.ensures.without);
    }) c.occur-2.ensures.queues c.occur-2.ensures.run

pub seek-requires-clause-from : goal.seek-requires-clause-from
seek-requires-clause-from c =
    let first = c.requires.kept.first in
    let lost = c.occur.ensures.without in
    rw c.deref.ensures.value (record { free = apart_without _ _ _ c.args.x _ first.free.apart lost; passed = apart_without _ _ _ c.args.x _ first.passed.apart lost })

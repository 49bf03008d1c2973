use Rattle.std.proofs.Common.{arith}
use Rattle.msc_race.specs.Choices.{event_count, wired_chart}
use Rattle.msc_chart.specs.Witness.{IsFree, IsHeld}
use Rattle.msc_race.proofs.Making.RemainderLemmas.{below_all, others_all}
use Rattle.msc_race.proofs.remaining.Remaining.start.Goals as goal

pub returns-clause-told : goal.returns-clause-told
returns-clause-told c =
    let choice = c.args.choice.now in
    let told = c.tell_all.ensures.told in
    let same = c.seek.ensures.same in
    record {
      free = rw same.free told.free;
      unheld = rw same.unheld (others_all _ (IsFree (wired_chart choice) choice.e) (IsHeld (wired_chart choice) choice.e) (event_count choice) told.unheld (λ y free. free.0));
      passed = rw same.passed (below_all _ _ (event_count choice) told.passed (λ y passed. passed.0.1.0));
    }

pub returns-clause-rows : goal.returns-clause-rows
returns-clause-rows c =
    let rows = c.tell_all.ensures.rows in
    let same = c.seek.ensures.same in
    record { free = rw same.free rows.free; unheld = rw same.unheld rows.unheld; passed = rw same.passed rows.passed }

pub seek-requires-clause-from : goal.seek-requires-clause-from
seek-requires-clause-from c = record { free = λ y below. absurd (omega (arith, below)); passed = λ y below. absurd (omega (arith, below)) }

use Rattle.std.proofs.Common.{refl}
use Rattle.msc_answer.proofs.chart_answers.ready_shown.Goals as goal

pub returns : goal.returns
returns g c =
    let lends = rw c.text.ensures at c.in_ok-lent.ensures in
    let are = rw (c.as_slice.ensures.value, c.as_slice-2.ensures.value, c.in_ok-arrows.ensures, c.in_ok-rounds_around.ensures, c.as_slice-statements.ensures, c.as_slice-events.ensures, c.chart.ensures) at c.in_ok-scenario.ensures in
    c.ready_in.ensures c.args.told.file.now (rw (c.requires.format, c.requires.drawing) (record {
      told = c.args.told;
      file_is = refl;
      told_is = c.requires.told;
      shown = c.args.shown.now;
      is = c.requires.shown;
      lent = c.in_ok-lent.lent;
      lends = lends;
      events = c.in_ok-scenario.scenario;
      are = are;
      text_of = c.text-2.ensures;
      unmarked = refl;
      label = c.as_str.ensures.value;
      queues_are = c.as_str-2.ensures.value;
      following = refl;
    }))

use Rattle.std.proofs.Common.{Ok, Err, is_some, option_map, subst}
use Rattle.std.proofs.lemmas.Result.{err_from_is_err_and}
use Rattle.msc_chart.specs.Drawings.{Drawing}
use Rattle.msc_print.specs.Pages.{Tells}
use Rattle.msc_text.specs.Judging.{JudgesChart}
use Rattle.msc_answer.proofs.Answered.{has_room, judged, judged_alike, not_judged, rounds_are, rounds_given}
use Rattle.msc_answer.proofs.chart_answers.check_in.Goals as goal

pub judge_chart-requires : goal.judge_chart-requires
judge_chart-requires g c =
    rw (c.of-input.ensures.chart, c.of-input.ensures.rounds, c.chart.ensures) (rounds_are c.args.check_args.again c.args.source.now.chart c.args.rounds c.requires.rounds)

pub returns-in_err-judged : goal.returns-in_err-judged
returns-in_err-judged g c = λ file its.
    let p = err_from_is_err_and c.from_residual.result c.from_residual.ensures.1 in
    let of_input = judged_alike g.O.Write.contents c.args.check_args.options c.args.chart_format (Err c.in_err-judged.field-0.0) c.args.output.now c.judge_chart.new.writer
    _ c.chart.result _ c.args.check_args.queues _ c.args.marks _ c.args.rounds c.of-input.ensures.chart c.of-input.ensures.queues c.of-input.ensures.marks c.of-input.ensures.rounds c.in_err-judged.ensures in
    let told = subst (λ (d : Drawing). Tells g.O.Write.contents (JudgesChart d c.args.check_args.queues c.args.check_args.options (option_map (λ m. m.now) c.args.marks) (is_some c.args.rounds) c.args.chart_format) (Err c.in_err-judged.field-0.0) c.args.output.now c.judge_chart.new.writer)
    c.chart.ensures of_input in
    rw (p.1, p.2) (not_judged g.O.Write.contents c.args.check_args file c.args.chart_format c.args.source.now (option_map (λ m. m.now) c.args.marks) its c.requires.marks
    (has_room c.args.check_args.again c.args.source.now.chart c.args.rounds c.requires.rounds) _ (rounds_given c.args.check_args.again c.args.source.now.chart c.args.rounds c.requires.rounds) _ _ _ told)

pub returns : goal.returns
returns g c = λ file its.
    let of_input = judged_alike g.O.Write.contents c.args.check_args.options c.args.chart_format (Ok c.in_ok-judged.judged) c.args.output.now c.judge_chart.new.writer
    _ c.chart.result _ c.args.check_args.queues _ c.args.marks _ c.args.rounds c.of-input.ensures.chart c.of-input.ensures.queues c.of-input.ensures.marks c.of-input.ensures.rounds c.in_ok-judged.ensures in
    let told = subst (λ (d : Drawing). Tells g.O.Write.contents (JudgesChart d c.args.check_args.queues c.args.check_args.options (option_map (λ m. m.now) c.args.marks) (is_some c.args.rounds) c.args.chart_format) (Ok c.in_ok-judged.judged) c.args.output.now c.judge_chart.new.writer)
    c.chart.ensures of_input in
    judged g.O.Write.contents c.args.check_args file c.args.chart_format c.args.source.now (option_map (λ m. m.now) c.args.marks) its c.requires.marks
    (has_room c.args.check_args.again c.args.source.now.chart c.args.rounds c.requires.rounds) _ (rounds_given c.args.check_args.again c.args.source.now.chart c.args.rounds c.requires.rounds) _ _ c.has_marks.ensures _ _ told

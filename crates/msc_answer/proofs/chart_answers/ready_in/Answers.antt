use Rattle.std.proofs.Common.{Ok, Err, is_some, sym, ap, ◌∙◌, subst}
use Rattle.std.proofs.lemmas.Result.{err_from_is_err_and}
use Rattle.std.specs.Option.{option_copied}
use Rattle.msc_chart.specs.Drawings.{Drawing}
use Rattle.msc_print.specs.Pages.{Tells}
use Rattle.msc_text.specs.Readying.{PrintsReady}
use Rattle.msc_text.specs.declared.readying.ReadyQuery.{ReadyQuery}
use Rattle.msc_answer.specs.Readied.{names_of}
use Rattle.msc_answer.proofs.Answered.{has_room, lines_fit, not_readied, readied, rounds_are, rounds_given}
use Rattle.msc_answer.proofs.chart_answers.ready_in.Goals as goal

pub write_ready-requires : goal.write_ready-requires
write_ready-requires g c =
    let d = c.args.source.now.chart in
    record {
      lines = λ l is. rw c.chart.ensures (lines_fit d (names_of c.args.readying) (option_copied c.args.only) c.requires.only l
          (ap (λ (q : ReadyQuery). option_copied q.only) (sym c.of-query.ensures) ∙ is));
      rounds = rw c.chart.ensures (rounds_are c.args.readying.again d c.args.rounds c.requires.rounds);
    }

pub returns-in_err-finishes : goal.returns-in_err-finishes
returns-in_err-finishes g c = λ file its.
    let p = err_from_is_err_and c.from_residual.result c.from_residual.ensures.1 in
    let x = c.args.readying in
    let d = c.args.source.now.chart in
    let of_query = subst (λ (q : ReadyQuery). Tells g.O.Write.contents (PrintsReady c.chart.result.now q.queues (option_copied q.only) (is_some c.args.rounds) q.show q.format) (Err c.in_err-finishes.field-0.0) c.args.output.now c.write_ready.new.writer)
    c.of-query.ensures c.in_err-finishes.ensures in
    let told = subst (λ (d : Drawing). Tells g.O.Write.contents (PrintsReady d x.queues (option_copied c.args.only) (is_some c.args.rounds) x.show c.args.stick_format) (Err c.in_err-finishes.field-0.0) c.args.output.now c.write_ready.new.writer)
    c.chart.ensures of_query in
    rw (p.1, p.2) (not_readied g.O.Write.contents x file c.args.source.now _ c.requires.only c.args.stick_format its
    (has_room x.again d c.args.rounds c.requires.rounds) _ (rounds_given x.again d c.args.rounds c.requires.rounds) _ _ _ told)

pub returns : goal.returns
returns g c = λ file its.
    let x = c.args.readying in
    let d = c.args.source.now.chart in
    let of_query = subst (λ (q : ReadyQuery). Tells g.O.Write.contents (PrintsReady c.chart.result.now q.queues (option_copied q.only) (is_some c.args.rounds) q.show q.format) (Ok c.in_ok-finishes.finishes) c.args.output.now c.write_ready.new.writer)
    c.of-query.ensures c.in_ok-finishes.ensures in
    let told = subst (λ (d : Drawing). Tells g.O.Write.contents (PrintsReady d x.queues (option_copied c.args.only) (is_some c.args.rounds) x.show c.args.stick_format) (Ok c.in_ok-finishes.finishes) c.args.output.now c.write_ready.new.writer)
    c.chart.ensures of_query in
    rw c.ended_by.ensures (readied g.O.Write.contents x file c.args.source.now _ c.requires.only c.args.stick_format its
    (has_room x.again d c.args.rounds c.requires.rounds) _ (rounds_given x.again d c.args.rounds c.requires.rounds) _ _ _ told)

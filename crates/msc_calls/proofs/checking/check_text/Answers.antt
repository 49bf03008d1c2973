use Rattle.std.proofs.Common.{◌≡◌, ℕ, List, Bor, Option, Result, false, None, Ok, Err, sym, subst}
use Rattle.std.specs.Prelude.{is_some, option_map}
use Rattle.std.proofs.lemmas.Result.{err_from_is_err_and}
use Rattle.msc_chart.specs.Drawings.{Drawing}
use Rattle.msc_chart.specs.declared.queue.Queues.{Queues}
use Rattle.msc_judge.specs.declared.options.CheckOptions.{CheckOptions}
use Rattle.msc_text.specs.declared.judging.Judged.{Judged}
use Rattle.msc_mark.specs.declared.mark.Mark.{Mark}
use Rattle.msc_print.specs.Pages.{Tells}
use Rattle.msc_print.specs.declared.page.WriteFault.{WriteFault}
use Rattle.msc_source.specs.Texts.{IsChartOf}
use Rattle.msc_text.specs.Judging.{JudgesChart}
use Rattle.msc_calls.specs.Plain.{plain_style}
use Rattle.msc_text.specs.declared.judging.ChartFormat.{ChartFormat}
use Rattle.msc_text.specs.declared.judging.ChartFormat.TheVariants.{Lines}
use Rattle.msc_calls.proofs.Verdicts.{begins_verdict, writes_verdict}
use Rattle.msc_calls.proofs.Refusals.{draft_charted, draft_refused, text_drafted, text_refused, write_refuses_no_draft, write_refuses_no_text}
use Rattle.msc_calls.proofs.checking.check_text.Goals as goal

-- what is printed of a chart without marks and rounds
as_plain : {W : Type 0} (contents : W → Option (List ℕ)) (q : CheckOptions) (f : ChartFormat) (r : Result Judged WriteFault) (old new : W)
    (chart given : Bor Drawing) (asked queues : Queues) (marks : Option (Bor (List Mark))) (rounds : Option (Bor Drawing))
    → chart ≡ given → asked ≡ queues → marks ≡ None → rounds ≡ None
    → Tells contents (JudgesChart chart.now asked q (option_map (λ m. m.now) marks) (is_some rounds) f) r old new
    → Tells contents (JudgesChart given.now queues q None false f) r old new
as_plain contents q f r old new chart given asked queues marks rounds same_chart same_queues without_marks without_rounds h =
    rw (same_chart, same_queues, without_marks, without_rounds) at h

pub returns-in_err-source-clause-refused : goal.returns-in_err-source-clause-refused
returns-in_err-source-clause-refused g c =
    let exit = err_from_is_err_and c.from_residual.result c.from_residual.ensures.1 in
    rw (exit.1, exit.2) (text_refused c.one_parsing.ensures c.args.text.now _ c.in_err-source.ensures)

pub returns-in_err-source-clause-no_chart : goal.returns-in_err-source-clause-no_chart
returns-in_err-source-clause-no_chart g c =
    let exit = err_from_is_err_and c.from_residual.result c.from_residual.ensures.1 in
    rw (exit.1, exit.2) (draft_refused c.one_parsing.ensures c.args.text.now _ c.in_err-source.ensures)

pub returns-in_err-found-clause-refused : goal.returns-in_err-found-clause-refused
returns-in_err-found-clause-refused g c =
    let exit = err_from_is_err_and c.from_residual-in_err-found.result c.from_residual-in_err-found.ensures.1 in
    rw (exit.1, exit.2) (text_drafted c.one_parsing.ensures c.args.text.now _ _ c.in_ok-source.ensures.2.has (write_refuses_no_text c.in_err-found.field-0.0))

pub returns-in_err-found-clause-no_chart : goal.returns-in_err-found-clause-no_chart
returns-in_err-found-clause-no_chart g c =
    let exit = err_from_is_err_and c.from_residual-in_err-found.result c.from_residual-in_err-found.ensures.1 in
    rw (exit.1, exit.2) (draft_charted c.one_parsing.ensures c.args.text.now _ _ c.in_ok-source.ensures.2 (write_refuses_no_draft c.in_err-found.field-0.0))

pub returns-clause-refused : goal.returns-clause-refused
returns-clause-refused g c = text_drafted c.one_parsing.ensures c.args.text.now _ _ c.in_ok-source.ensures.2.has (λ f e. cc)

pub returns-clause-no_chart : goal.returns-clause-no_chart
returns-clause-no_chart g c = draft_charted c.one_parsing.ensures c.args.text.now _ _ c.in_ok-source.ensures.2 (λ f e. cc)

pub returns-in_err-found-clause-begun : goal.returns-in_err-found-clause-begun
returns-in_err-found-clause-begun g c =
    let exit = err_from_is_err_and c.from_residual-in_err-found.result c.from_residual-in_err-found.ensures.1 in
    let of_text = subst (IsChartOf c.args.text.now) (sym c.chart.ensures) c.in_ok-source.ensures.2 in
    let laws = c.the_witness_reverses.ensures in
    rw (exit.1, exit.2) (begins_verdict c.args.text.now c.args.queues c.args.show c.chart.result.now of_text c.enforced_orders_tell_verdicts.ensures laws.whole laws.races
    g.W.Write.contents c.in_err-found.field-0.0 c.args.writer.now _
    (subst (λ (q : CheckOptions). Tells g.W.Write.contents (JudgesChart c.chart.result.now c.args.queues q None false (Lines plain_style)) (Err c.in_err-found.field-0.0) c.args.writer.now c.judge_chart.new.writer)
    c.all_races-options.ensures (subst (λ (f : ChartFormat). Tells g.W.Write.contents (JudgesChart c.chart.result.now c.args.queues c.all_races-options.result None false f) (Err c.in_err-found.field-0.0) c.args.writer.now c.judge_chart.new.writer)
    c.plain_lines.ensures (as_plain g.W.Write.contents c.all_races-options.result c.plain_lines.result (Err c.in_err-found.field-0.0) c.args.writer.now c.judge_chart.new.writer _ c.chart.result _ c.args.queues _ _ c.of-input.ensures.chart c.of-input.ensures.queues c.of-input.ensures.marks c.of-input.ensures.rounds c.in_err-found.ensures))))

pub returns-clause-written : goal.returns-clause-written
returns-clause-written g c =
    let of_text = subst (IsChartOf c.args.text.now) (sym c.chart.ensures) c.in_ok-source.ensures.2 in
    let laws = c.the_witness_reverses.ensures in
    rw c.passes.ensures (writes_verdict c.args.text.now c.args.queues c.args.show c.chart.result.now of_text c.enforced_orders_tell_verdicts.ensures laws.whole laws.races
    g.W.Write.contents c.in_ok-found.found c.args.writer.now _
    (subst (λ (q : CheckOptions). Tells g.W.Write.contents (JudgesChart c.chart.result.now c.args.queues q None false (Lines plain_style)) (Ok c.in_ok-found.found) c.args.writer.now c.judge_chart.new.writer)
    c.all_races-options.ensures (subst (λ (f : ChartFormat). Tells g.W.Write.contents (JudgesChart c.chart.result.now c.args.queues c.all_races-options.result None false f) (Ok c.in_ok-found.found) c.args.writer.now c.judge_chart.new.writer)
    c.plain_lines.ensures (as_plain g.W.Write.contents c.all_races-options.result c.plain_lines.result (Ok c.in_ok-found.found) c.args.writer.now c.judge_chart.new.writer _ c.chart.result _ c.args.queues _ _ c.of-input.ensures.chart c.of-input.ensures.queues c.of-input.ensures.marks c.of-input.ensures.rounds c.in_ok-found.ensures))))

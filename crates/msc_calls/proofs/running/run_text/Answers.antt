use Rattle.std.proofs.Common.{sym, subst}
use Rattle.std.proofs.lemmas.Result.{err_from_is_err_and}
use Rattle.msc_source.specs.Texts.{IsChartOf}
use Rattle.msc_calls.proofs.Refusals.{draft_charted, draft_refused, text_drafted, text_refused}
use Rattle.msc_calls.proofs.Started.{run_names, run_refuses_no_draft, run_refuses_no_text}
use Rattle.msc_calls.proofs.running.run_text.Goals as goal

pub returns-in_err-source-clause-refused : goal.returns-in_err-source-clause-refused
returns-in_err-source-clause-refused g c =
    let exit = err_from_is_err_and c.from_residual.result c.from_residual.ensures.1 in
    rw (exit.1, exit.2) (text_refused c.one_parsing.ensures c.args.text.now _ c.in_err-source.ensures)

pub returns-in_err-source-clause-no_chart : goal.returns-in_err-source-clause-no_chart
returns-in_err-source-clause-no_chart g c =
    let exit = err_from_is_err_and c.from_residual.result c.from_residual.ensures.1 in
    rw (exit.1, exit.2) (draft_refused c.one_parsing.ensures c.args.text.now _ c.in_err-source.ensures)

pub returns-in_err-page-clause-refused : goal.returns-in_err-page-clause-refused
returns-in_err-page-clause-refused g c =
    let exit = err_from_is_err_and c.from_residual-in_err-page.result c.from_residual-in_err-page.ensures.1 in
    rw (exit.1, exit.2) (text_drafted c.one_parsing.ensures c.args.text.now _ _ c.in_ok-source.ensures.2.has (run_refuses_no_text c.in_err-page.field-0.0))

pub returns-in_err-page-clause-no_chart : goal.returns-in_err-page-clause-no_chart
returns-in_err-page-clause-no_chart g c =
    let exit = err_from_is_err_and c.from_residual-in_err-page.result c.from_residual-in_err-page.ensures.1 in
    rw (exit.1, exit.2) (draft_charted c.one_parsing.ensures c.args.text.now _ _ c.in_ok-source.ensures.2 (run_refuses_no_draft c.in_err-page.field-0.0))

pub returns-in_err-page-clause-started : goal.returns-in_err-page-clause-started
returns-in_err-page-clause-started g c =
    let exit = err_from_is_err_and c.from_residual-in_err-page.result c.from_residual-in_err-page.ensures.1 in
    let of_text = subst (IsChartOf c.args.text.now) (sym c.chart-chart.ensures) c.in_ok-source.ensures.2 in
    rw (exit.1, exit.2) (run_names c.args.text.now c.chart-chart.result.now c.in_err-page.field-0.0 of_text c.in_err-page.ensures.started)

pub returns-in_err-write_all-clause-refused : goal.returns-in_err-write_all-clause-refused
returns-in_err-write_all-clause-refused g c =
    let exit = err_from_is_err_and c.from_residual-in_err-write_all.result c.from_residual-in_err-write_all.ensures.1 in
    rw (exit.1, exit.2) (text_drafted c.one_parsing.ensures c.args.text.now _ _ c.in_ok-source.ensures.2.has (λ f e. cc))

pub returns-in_err-write_all-clause-no_chart : goal.returns-in_err-write_all-clause-no_chart
returns-in_err-write_all-clause-no_chart g c =
    let exit = err_from_is_err_and c.from_residual-in_err-write_all.result c.from_residual-in_err-write_all.ensures.1 in
    rw (exit.1, exit.2) (draft_charted c.one_parsing.ensures c.args.text.now _ _ c.in_ok-source.ensures.2 (λ f e. cc))

pub returns-clause-refused : goal.returns-clause-refused
returns-clause-refused g c =
    text_drafted c.one_parsing.ensures c.args.text.now _ _ c.in_ok-source.ensures.2.has (λ f e. cc)

pub returns-clause-no_chart : goal.returns-clause-no_chart
returns-clause-no_chart g c =
    draft_charted c.one_parsing.ensures c.args.text.now _ _ c.in_ok-source.ensures.2 (λ f e. cc)

use Rattle.std.proofs.Common.{ℕ, Option, ◌∙◌, ap, refl, subst, sym}
use Rattle.std.proofs.lemmas.Result.{err_from_is_err_and}
use Rattle.msc_answer.proofs.ReportLemmas.{none_faulty, none_imported, none_ruled, page_under}
use Rattle.msc_answer.proofs.SurveyLemmas.{all_charts, drawn_so, none_read}
use Rattle.msc_answer.specs.ArrowMarks.{AreArrowMarks}
use Rattle.msc_answer.specs.ShownDiagrams.{line_in}
use Rattle.msc_answer.specs.declared.tasks.ScenarioArgs.{ScenarioArgs}
use Rattle.msc_answer.proofs.reporting.report_checked.Goals as goal

pub returns-in_err-diagram : goal.returns-in_err-diagram
returns-in_err-diagram c =
    let p = err_from_is_err_and c.from_residual.result c.from_residual.ensures.1 in
    let x = c.args.words in let text = c.args.text.now in
    rw (p.1, p.2) (none_imported x c.args.file.now text _ (none_read c.reading_comes_first.ensures x text _ c.in_err-diagram.ensures))

pub returns-in_err-all : goal.returns-in_err-all
returns-in_err-all c =
    let p = err_from_is_err_and c.from_residual-in_err-all.result c.from_residual-in_err-all.ensures.1 in
    let x = c.args.words in let text = c.args.text.now in
    rw (p.1, p.2) (none_imported x c.args.file.now text _ (c.in_err-all.ensures text x.diagram.fence c.in_ok-diagram.ensures))

pub linked-requires : goal.linked-requires
linked-requires c = all_charts c.imports_are_charts.ensures.all c.args.words c.args.text.now c.in_ok-all.all (c.in_ok-all.ensures c.args.text.now c.args.words.diagram.fence c.in_ok-diagram.ensures)

pub of-requires : goal.of-requires
of-requires c = all_charts c.imports_are_charts.ensures.all c.args.words c.args.text.now c.in_ok-all.all (c.in_ok-all.ensures c.args.text.now c.args.words.diagram.fence c.in_ok-diagram.ensures)

pub returns-in_err-linked : goal.returns-in_err-linked
returns-in_err-linked c =
    let p = err_from_is_err_and c.from_residual-in_err-linked.result c.from_residual-in_err-linked.ensures.1 in
    let x = c.args.words in let text = c.args.text.now in
    rw (p.1, p.2) (none_ruled x c.args.file.now text c.in_ok-all.all (c.in_ok-all.ensures text x.diagram.fence c.in_ok-diagram.ensures) _ c.in_err-linked.ensures)

pub returns-in_err-marks : goal.returns-in_err-marks
returns-in_err-marks c =
    let p = err_from_is_err_and c.from_residual-in_err-marks.result c.from_residual-in_err-marks.ensures.1 in
    let x = c.args.words in let text = c.args.text.now in let linked = c.in_ok-linked.ensures in
    rw (p.1, p.2) (none_faulty x c.args.file.now text c.in_ok-all.all (c.in_ok-all.ensures text x.diagram.fence c.in_ok-diagram.ensures) linked.0 linked.1
    c.in_ok-diagram.diagram c.in_ok-diagram.ensures _ c.in_err-marks.ensures)

pub returns-in_err-page : goal.returns-in_err-page
returns-in_err-page c =
    let p = err_from_is_err_and c.from_residual-in_err-page.result c.from_residual-in_err-page.ensures.1 in
    rw (p.1, p.2) tt

pub report_page-requires : goal.report_page-requires
report_page-requires c = ap (λ (z : ScenarioArgs). z.check_args.format) c.in_ok-linked.ensures.2 ∙ c.requires

pub returns : goal.returns
returns c =
    let x = c.args.words in let file = c.args.file.now in let text = c.args.text.now in let all = c.in_ok-all.all in
    let linked = c.in_ok-linked.ensures in
    let is = c.in_ok-all.ensures text x.diagram.fence c.in_ok-diagram.ensures in
    let page = c.in_ok-page.ensures in (
      all,
      is,
      all_charts c.imports_are_charts.ensures.all x text all is,
      linked.0,
      linked.1,
      (
        _,
        record {
          file_is = refl;
          text_is = refl;
          read_as = c.in_ok-diagram.ensures;
          line_is = c.in_ok-line_in.ensures ∙ ap (λ (n : Option ℕ). line_in n text) c.fence_of.ensures;
          name_is = c.as_slice.ensures;
          counted_is = c.as_bytes.ensures.value;
          drawn_is = drawn_so x text all is;
          marks_are = subst (AreArrowMarks x.check_args.accept text c.in_ok-diagram.diagram) (sym c.as_ref.ensures.value) c.in_ok-marks.ensures;
          chosen_is = c.is_some.ensures;
          following_is = refl;
        },
        page_under x _ _ _ _ _ _ linked.2 c.in_ok-charts.ensures page,
      ),
    )

use Rattle.std.proofs.Common.{ℕ, Option, ◌∙◌, ap, refl, subst, sym}
use Rattle.std.proofs.lemmas.Result.{err_from_is_err_and}
use Rattle.msc_answer.proofs.SurveyLemmas.{all_charts, drawn_so, none_drawn, none_linked, none_marked, none_read, told_by}
use Rattle.msc_answer.specs.ArrowMarks.{AreArrowMarks}
use Rattle.msc_answer.specs.Scenarios.{BeginsAll, BeginsScenarios, IsToldOf, PrintsAll, PrintsScenarios}
use Rattle.msc_answer.specs.ShownDiagrams.{line_in}
use Rattle.msc_answer.specs.declared.tasks.ScenarioArgs.{ScenarioArgs}
use Rattle.msc_answer.proofs.scenarios.check_scenarios.Goals as goal

pub returns-in_err-diagram : goal.returns-in_err-diagram
returns-in_err-diagram g c =
    let p = err_from_is_err_and c.from_residual.result c.from_residual.ensures.1 in
    let x = c.args.words in let text = c.args.text.now in
    rw (p.1, p.2) (none_drawn g.O.Write.contents (PrintsScenarios x c.args.file.now text) (BeginsScenarios x c.args.file.now text)
    x text c.args.output.now _ (none_read c.reading_comes_first.ensures x text _ c.in_err-diagram.ensures))

pub returns-in_err-all : goal.returns-in_err-all
returns-in_err-all g c =
    let p = err_from_is_err_and c.from_residual-in_err-all.result c.from_residual-in_err-all.ensures.1 in
    let x = c.args.words in let text = c.args.text.now in
    rw (p.1, p.2) (none_drawn g.O.Write.contents (PrintsScenarios x c.args.file.now text) (BeginsScenarios x c.args.file.now text)
    x text c.args.output.now _ (c.in_err-all.ensures text x.diagram.fence c.in_ok-diagram.ensures))

pub linked-requires : goal.linked-requires
linked-requires g c = all_charts c.imports_are_charts.ensures.all c.args.words c.args.text.now c.in_ok-all.all (c.in_ok-all.ensures c.args.text.now c.args.words.diagram.fence c.in_ok-diagram.ensures)

pub of-requires : goal.of-requires
of-requires g c = all_charts c.imports_are_charts.ensures.all c.args.words c.args.text.now c.in_ok-all.all (c.in_ok-all.ensures c.args.text.now c.args.words.diagram.fence c.in_ok-diagram.ensures)

pub returns-in_err-linked : goal.returns-in_err-linked
returns-in_err-linked g c =
    let p = err_from_is_err_and c.from_residual-in_err-linked.result c.from_residual-in_err-linked.ensures.1 in
    rw (p.1, p.2) (none_linked g.O.Write.contents (PrintsScenarios c.args.words c.args.file.now c.args.text.now) (BeginsScenarios c.args.words c.args.file.now c.args.text.now)
    c.args.words c.args.text.now c.args.output.now c.in_ok-all.all (c.in_ok-all.ensures c.args.text.now c.args.words.diagram.fence c.in_ok-diagram.ensures) _ c.in_err-linked.ensures)

pub returns-in_err-marks : goal.returns-in_err-marks
returns-in_err-marks g c =
    let p = err_from_is_err_and c.from_residual-in_err-marks.result c.from_residual-in_err-marks.ensures.1 in
    let x = c.args.words in let text = c.args.text.now in let linked = c.in_ok-linked.ensures in
    rw (p.1, p.2) (none_marked g.O.Write.contents (PrintsScenarios x c.args.file.now text) (BeginsScenarios x c.args.file.now text)
    x text c.args.output.now c.in_ok-all.all (c.in_ok-all.ensures text x.diagram.fence c.in_ok-diagram.ensures) linked.0 linked.1
    c.in_ok-diagram.diagram c.in_ok-diagram.ensures _ c.in_err-marks.ensures)

pub returns : goal.returns
returns g c =
    let x = c.args.words in let file = c.args.file.now in let text = c.args.text.now in let all = c.in_ok-all.all in
    let linked = c.in_ok-linked.ensures in
    let is = c.in_ok-all.ensures text x.diagram.fence c.in_ok-diagram.ensures in
    told_by g.O.Write.contents (λ name t. IsToldOf x file text name file (line_in x.diagram.fence text) x.check_args.following t) PrintsAll BeginsAll
    c.imports_are_charts.ensures.all x file text all is linked.0 linked.1
    c.in_ok-linked.linked.quiet (ap (λ (z : ScenarioArgs). z.quiet) linked.2) c.in_ok-linked.linked.check_args (ap (λ (z : ScenarioArgs). z.check_args) linked.2)
    c.in_ok-charts.charts c.in_ok-charts.ensures _ c.tell_all.result c.args.output.now c.tell_all.new.output c.tell_all.ensures
    (record {
      file_is = refl;
      text_is = refl;
      read_as = c.in_ok-diagram.ensures;
      line_is = c.in_ok-line_in.ensures ∙ ap (λ (n : Option ℕ). line_in n text) c.fence_of.ensures;
      name_is = c.as_slice.ensures;
      counted_is = c.as_bytes.ensures.value;
      drawn_is = drawn_so x text all is;
      marks_are = subst (AreArrowMarks x.check_args.accept text c.in_ok-diagram.diagram) (sym c.as_ref.ensures.value) c.in_ok-marks.ensures;
      chosen_is = c.is_some.ensures;
      following_is = refl;
    })

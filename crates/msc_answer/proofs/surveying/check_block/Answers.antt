use Rattle.std.proofs.Common.{◌≡◌, ◌∙◌, ℕ, List, Some, Ok, Err, ap, refl, subst, sym}
use Rattle.std.proofs.lemmas.Result.{err_from_is_err_and}
use Rattle.msc_findings.specs.declared.format.Following.TheVariants.{Blank}
use Rattle.msc_answer.proofs.SurveyLemmas.{all_charts, drawn_so, none_drawn, none_linked_in, none_marked, none_read, told_by}
use Rattle.msc_answer.specs.ArrowMarks.{AreArrowMarks, ReadsArrowMarks}
use Rattle.msc_answer.specs.Scenarios.{BeginsAll, IsToldOf, PrintsCounted}
use Rattle.msc_answer.specs.ShownDiagrams.{line_by, line_in}
use Rattle.msc_answer.specs.declared.tasks.ScenarioArgs.{ScenarioArgs}
use Rattle.msc_answer.specs.Surveys.{at_block, numbered, BeginsBlock, PrintsBlock}
use Rattle.msc_answer.proofs.surveying.check_block.Goals as goal

pub returns-in_err-diagram : goal.returns-in_err-diagram
returns-in_err-diagram g c =
    let p = err_from_is_err_and c.from_residual.result c.from_residual.ensures.1 in
    let x = c.args.words in let n = c.args.number in let file = c.args.file.now in let text = c.args.found.now.text in
    rw (p.1, p.2) (none_drawn g.O.Write.contents (PrintsBlock x file text n) (BeginsBlock x file text n)
    (at_block x n) text c.args.output.now _ (none_read c.reading_comes_first.ensures (at_block x n) text _ c.in_err-diagram.ensures))

pub returns-in_err-all : goal.returns-in_err-all
returns-in_err-all g c =
    let p = err_from_is_err_and c.from_residual-in_err-all.result c.from_residual-in_err-all.ensures.1 in
    let x = c.args.words in let n = c.args.number in let file = c.args.file.now in let text = c.args.found.now.text in
    rw (p.1, p.2) (none_drawn g.O.Write.contents (PrintsBlock x file text n) (BeginsBlock x file text n)
    (at_block x n) text c.args.output.now _ (c.in_err-all.ensures text (Some n) c.in_ok-diagram.ensures))

pub linked-requires : goal.linked-requires
linked-requires g c = all_charts c.imports_are_charts.ensures.all (at_block c.args.words c.args.number) c.args.found.now.text c.in_ok-all.all (c.in_ok-all.ensures c.args.found.now.text (Some c.args.number) c.in_ok-diagram.ensures)

pub of-requires : goal.of-requires
of-requires g c = all_charts c.imports_are_charts.ensures.all (at_block c.args.words c.args.number) c.args.found.now.text c.in_ok-all.all (c.in_ok-all.ensures c.args.found.now.text (Some c.args.number) c.in_ok-diagram.ensures)

pub returns-in_err-linked : goal.returns-in_err-linked
returns-in_err-linked g c =
    let p = err_from_is_err_and c.from_residual-in_err-linked.result c.from_residual-in_err-linked.ensures.1 in
    let x = c.args.words in let n = c.args.number in let file = c.args.file.now in let text = c.args.found.now.text in
    rw (p.1, p.2) (none_linked_in g.O.Write.contents (PrintsBlock x file text n) (BeginsBlock x file text n)
    (at_block x n) text c.args.output.now c.in_ok-all.all (c.in_ok-all.ensures text (Some n) c.in_ok-diagram.ensures) _ c.text.ensures _ c.in_err-linked.ensures)

pub returns-in_err-marks : goal.returns-in_err-marks
returns-in_err-marks g c =
    let p = err_from_is_err_and c.from_residual-in_err-marks.result c.from_residual-in_err-marks.ensures.1 in
    let x = c.args.words in let n = c.args.number in let file = c.args.file.now in let text = c.args.found.now.text in
    let linked = rw c.text.ensures at c.in_ok-linked.ensures in
    let read = subst (λ (t : List ℕ). ReadsArrowMarks x.check_args.accept t c.in_ok-diagram.diagram (Err c.in_err-marks.field-0.0)) c.text-2.ensures c.in_err-marks.ensures in
    rw (p.1, p.2) (none_marked g.O.Write.contents (PrintsBlock x file text n) (BeginsBlock x file text n)
    (at_block x n) text c.args.output.now c.in_ok-all.all (c.in_ok-all.ensures text (Some n) c.in_ok-diagram.ensures) linked.0 linked.1
    c.in_ok-diagram.diagram c.in_ok-diagram.ensures _ read)

pub returns : goal.returns
returns g c =
    let x = c.args.words in let n = c.args.number in let file = c.args.file.now in let text = c.args.found.now.text in let all = c.in_ok-all.all in
    let linked = rw c.text.ensures at c.in_ok-linked.ensures in
    let is = c.in_ok-all.ensures text (Some n) c.in_ok-diagram.ensures in
    let name : c.as_slice-2.result.now ≡ numbered all.name n = c.as_slice-2.ensures.value ∙ (rw c.as_slice.ensures at c.in_ok-name.ensures) in
    let shown : c.as_slice-3.result.now ≡ numbered file n = c.as_slice-3.ensures.value ∙ (rw c.as_bytes.ensures.value at c.in_ok-shown.ensures) in
    told_by g.O.Write.contents (λ name t. IsToldOf (at_block x n) file text (numbered name n) (numbered file n) (line_in (Some n) text) Blank t) PrintsCounted BeginsAll
    c.imports_are_charts.ensures.all (at_block x n) file text all is linked.0 linked.1
    c.in_ok-linked.linked.quiet (ap (λ (z : ScenarioArgs). z.quiet) linked.2) c.in_ok-linked.linked.check_args (ap (λ (z : ScenarioArgs). z.check_args) linked.2)
    c.in_ok-charts.charts c.in_ok-charts.ensures _ c.tell.result c.args.output.now c.tell.new.output c.tell.ensures
    (record {
      file_is = refl;
      text_is = c.text-3.ensures;
      read_as = c.in_ok-diagram.ensures;
      line_is = c.block_line.ensures ∙ sym (ap (line_by (Some n)) c.requires);
      name_is = name;
      counted_is = shown;
      drawn_is = drawn_so (at_block x n) text all is;
      marks_are = subst (AreArrowMarks x.check_args.accept text c.in_ok-diagram.diagram) (sym c.as_ref.ensures.value)
          (subst (λ (t : List ℕ). ReadsArrowMarks x.check_args.accept t c.in_ok-diagram.diagram (Ok c.in_ok-marks.marks)) c.text-2.ensures c.in_ok-marks.ensures);
      chosen_is = c.is_some.ensures;
      following_is = refl;
    })

use Rattle.std.proofs.Common.{◌≡◌, ◌∙◌, List, Option, Result, Ok, ap, subst, sym, ℕ}
use Rattle.std.proofs.lemmas.Result.{err_from_is_err_and}
use Rattle.msc_import.specs.Importing.{read, told_of, Refusal as Said, RefusesSo}
use Rattle.msc_import.specs.Laws.{ReadingComesFirst}
use Rattle.msc_import.specs.Whole.{all_of, imported_all, reading_of_all}
use Rattle.msc_import.specs.declared.whole.Scenarios.{Scenarios}
use Rattle.msc_mermaid.specs.declared.statement.Diagram.{Diagram}
use Rattle.msc_answer.proofs.ImportPages.{not_imported}
use Rattle.msc_answer.proofs.SurveyLemmas.{any_fence}
use Rattle.msc_answer.specs.Scenarios.{wanted_of, with_fence}
use Rattle.msc_answer.specs.declared.tasks.ScenarioArgs.{ScenarioArgs}
use Rattle.msc_answer.proofs.scenarios.scenarios_with.Goals as goal

of_text : ReadingComesFirst → (x : ScenarioArgs) (fence : Option ℕ) (text : List ℕ) (d : Diagram) → read (reading_of_all (wanted_of (with_fence fence x))) text ≡ Ok d
    → imported_all (wanted_of (with_fence fence x)) text ≡ told_of d.lines (all_of (wanted_of x) d)
of_text law x fence text d is =
    law.of_diagram (wanted_of (with_fence fence x)) text d is ∙ ap (told_of d.lines) (sym (any_fence fence x d))

pub returns-in_err-all : goal.returns-in_err-all
returns-in_err-all c text fence is =
    let p = err_from_is_err_and c.from_residual.result c.from_residual.ensures.1 in
    let given = rw (c.fence_of.ensures, c.requires.rounds, c.requires.choose) at c.in_err-all.ensures in
    let x = c.args.words in
    rw (p.1, p.2) (not_imported (imported_all (wanted_of (with_fence fence x)) text) c.in_err-all.field-0.0
    (subst (λ (said : Result Scenarios Said). RefusesSo c.in_err-all.field-0.0 said) (sym (of_text c.reading_comes_first.ensures x fence text c.args.diagram.now is)) given))

pub returns : goal.returns
returns c text fence is =
    let given = rw (c.fence_of.ensures, c.requires.rounds, c.requires.choose) at c.in_ok-all.ensures in
    of_text c.reading_comes_first.ensures c.args.words fence text c.args.diagram.now is ∙ given

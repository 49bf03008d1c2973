use Rattle.std.proofs.Common.{◌∙◌, sym, subst, Result}
use Rattle.std.proofs.lemmas.Result.{err_from_is_err_and}
use Rattle.msc_import.specs.Importing.{read, Refusal as Said, RefusesSo}
use Rattle.msc_import.specs.Whole.{reading_of_all}
use Rattle.msc_mermaid.specs.declared.statement.Diagram.{Diagram}
use Rattle.msc_answer.proofs.Witness.{read_found}
use Rattle.msc_answer.proofs.ImportPages.{not_imported}
use Rattle.msc_answer.specs.Scenarios.{wanted_of}
use Rattle.msc_answer.specs.Surveys.{at_block}
use Rattle.msc_answer.proofs.surveying.diagram_at.Goals as goal

pub returns-in_err-diagram : goal.returns-in_err-diagram
returns-in_err-diagram c =
    let p = err_from_is_err_and c.from_residual.result c.from_residual.ensures.1 in
    let reading = reading_of_all (wanted_of (at_block c.args.words c.args.number)) in
    let given = rw c.reading_of.ensures at c.in_err-diagram.ensures in
    rw (p.1, p.2) (not_imported (read reading c.args.found.now.text) c.in_err-diagram.field-0.0
    (subst (λ (said : Result Diagram Said). RefusesSo c.in_err-diagram.field-0.0 said) (read_found reading c.args.found.now c.requires) given))

pub returns : goal.returns
returns c =
    let given = rw c.reading_of.ensures at c.in_ok-diagram.ensures in
    sym (read_found (reading_of_all (wanted_of (at_block c.args.words c.args.number))) c.args.found.now c.requires) ∙ given

use Rattle.std.proofs.Common.{◌∙◌, Result, option_map, subst, sym}
use Rattle.std.proofs.lemmas.Result.{err_from_is_err_and}
use Rattle.msc_import.specs.Importing.{imported, Refusal as Said, RefusesSo}
use Rattle.msc_import.specs.declared.importing.Imported.{Imported}
use Rattle.msc_answer.specs.Importing.{wanted_with}
use Rattle.msc_answer.proofs.ImportPages.{not_imported}
use Rattle.msc_answer.proofs.importing.drawn_of.Goals as goal

pub returns-in_err-imported : goal.returns-in_err-imported
returns-in_err-imported c text is =
    let p = err_from_is_err_and c.from_residual.result c.from_residual.ensures.1 in
    let x = wanted_with c.args.words (option_map (λ c. c.now) c.args.choices) in
    let given = rw c.fence_of.ensures at c.in_err-imported.ensures.given in
    let said = c.reading_comes_first.ensures.one_of_diagram x text c.args.diagram.now is in
    rw (p.1, p.2) (not_imported (imported x text) c.in_err-imported.field-0.0
    (subst (λ (said : Result Imported Said). RefusesSo c.in_err-imported.field-0.0 said) (sym said) given))

pub returns : goal.returns
returns c text is =
    let x = wanted_with c.args.words (option_map (λ c. c.now) c.args.choices) in
    (c.reading_comes_first.ensures.one_of_diagram x text c.args.diagram.now is ∙ rw c.fence_of.ensures at c.in_ok-imported.ensures.given, c.in_ok-imported.ensures.again)

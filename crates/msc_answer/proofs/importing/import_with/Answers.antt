use Rattle.std.proofs.Common.{option_map, refl, ◌∙◌}
use Rattle.std.proofs.lemmas.Result.{err_from_is_err_and}
use Rattle.msc_answer.proofs.ImportPages.{not_read}
use Rattle.msc_answer.specs.Importing.{wanted_with}
use Rattle.msc_answer.proofs.importing.import_with.Goals as goal

pub returns-in_err-diagram : goal.returns-in_err-diagram
returns-in_err-diagram c =
    let p = err_from_is_err_and c.from_residual.result c.from_residual.ensures.1 in
    let given = option_map (λ c. c.now) c.args.choices in
    rw (p.1, p.2) (not_read c.reading_comes_first.ensures (wanted_with c.args.words given) c.args.text.now _ (c.in_err-diagram.ensures given))

pub returns-in_err-imported : goal.returns-in_err-imported
returns-in_err-imported c =
    let p = err_from_is_err_and c.from_residual-in_err-imported.result c.from_residual-in_err-imported.ensures.1 in
    let given = option_map (λ c. c.now) c.args.choices in
    rw (p.1, p.2) (c.in_err-imported.ensures c.args.text.now (c.in_ok-diagram.ensures given))

pub returns : goal.returns
returns c =
    let given = option_map (λ c. c.now) c.args.choices in
    let is = c.in_ok-imported.ensures c.args.text.now (c.in_ok-diagram.ensures given) in
    record {
      imported_is = is.0;
      again = is.1;
      diagram_is = c.in_ok-diagram.ensures given;
      number_is = c.fence_of.ensures;
      choices_are = c.in_ok-from_slice.ensures.items ∙ c.given_or_main.ensures;
      manner_is = refl;
    }

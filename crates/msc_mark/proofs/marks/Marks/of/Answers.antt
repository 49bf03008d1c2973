use Rattle.std.proofs.Common.{sym, ap, ◌∙◌, subst}
use Rattle.std.proofs.lemmas.Result.{err_from_is_err_and}
use Rattle.msc_lexer.specs.Lexemes.{lexemes}
use Rattle.msc_mark.specs.Comments.{AreOwn, fault_from, marks_from}
use Rattle.msc_mark.proofs.Steps.{refused_text}
use Rattle.msc_mark.proofs.marks.Marks.of.Goals as goal

pub returns-in_err-list : goal.returns-in_err-list
returns-in_err-list c =
    let text = c.args.text.now in let p = err_from_is_err_and c.from_residual-in_err-list.result c.from_residual-in_err-list.ensures.1 in
    let own = subst (AreOwn text) (sym c.as_slice.ensures.value) c.in_ok-tokens.ensures.own in
    rw (p.1, p.2) (refused_text text c.as_slice.result.now c.in_err-list.field-0.0 own c.in_err-list.ensures.fault)

pub returns : goal.returns
returns c = λ ts have.
    let text = c.args.text.now in
    let same = c.as_slice.ensures.value ∙ c.in_ok-tokens.ensures.tokens ts have in
    record {
      all = c.from_vec.ensures ∙ c.in_ok-list.ensures.marks ∙ ap (λ us. marks_from 0 (lexemes text us)) same;
      faultless = sym (ap (λ us. fault_from (lexemes text us)) same) ∙ c.in_ok-list.ensures.faultless;
    }

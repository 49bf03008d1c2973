use Rattle.std.proofs.Common.{ℕ, List, Ok, Err, sym, subst, ◌∙◌}
use Rattle.std.proofs.lemmas.Result.{err_from_is_err_and}
use Rattle.msc_answer.proofs.AllSurveyed.{refused_block, spent_block, surveyed_refused, untold_block}
use Rattle.msc_answer.specs.Answering.{TellsBlock}
use Rattle.msc_answer.proofs.answering.survey_block.Goals as goal

pub returns-then-is_spent : goal.returns-then-is_spent
returns-then-is_spent g c =
    spent_block g.O.Write.contents c.args.words c.args.request.file.now c.args.found.now.text c.args.number c.in-Err.refusal
    c.args.output.now c.check_block.new.output (sym c.is_spent.ensures ∙ c.if-is_spent.true) c.in-Err.ensures

pub returns-in_err-tell_block : goal.returns-in_err-tell_block
returns-in_err-tell_block g c =
    let p = err_from_is_err_and c.from_residual.result c.from_residual.ensures.1 in
    let contents = g.O.Write.contents in let x = c.args.words in let file = c.args.request.file.now in
    let text = c.args.found.now.text in let n = c.args.number in let r = c.in-Err.refusal in
    let said = refused_block contents x file text n r c.args.output.now c.check_block.new.output (sym c.is_spent.ensures ∙ c.if-is_spent.false) c.in-Err.ensures in
    let told = subst (λ (t : List ℕ). TellsBlock contents x file t n r (Err c.in_err-tell_block.field-0.0) c.check_block.new.output c.tell_block.new.output)
    c.text-text.ensures c.in_err-tell_block.ensures in
    rw (p.1, p.2) (untold_block contents x file text n r c.args.output.now c.check_block.new.output c.tell_block.new.output said c.in_err-tell_block.field-0.0 told)

pub returns : goal.returns
returns g c =
    let contents = g.O.Write.contents in let x = c.args.words in let file = c.args.request.file.now in
    let text = c.args.found.now.text in let n = c.args.number in let r = c.in-Err.refusal in
    let said = refused_block contents x file text n r c.args.output.now c.check_block.new.output (sym c.is_spent.ensures ∙ c.if-is_spent.false) c.in-Err.ensures in
    let told = subst (λ (t : List ℕ). TellsBlock contents x file t n r (Ok c.in_ok-tell_block.field-0) c.check_block.new.output c.tell_block.new.output)
    c.text-text.ensures c.in_ok-tell_block.ensures in
    surveyed_refused contents x file text n r c.args.output.now c.check_block.new.output c.tell_block.new.output said c.in_ok-tell_block.field-0 told

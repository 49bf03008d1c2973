use Rattle.std.proofs.lemmas.Result.{IfOk-weaker}
use Rattle.msc_lexer.proofs.Placed.{are_within, are_named, are_few}
use Rattle.msc_lexer.proofs.OneReading.{answers_tokens, answers_fault}
use Rattle.msc_lexer.proofs.lexing.lex.Goals as goal

pub returns-clause-only_tokens : goal.returns-clause-only_tokens
returns-clause-only_tokens c =
    answers_tokens c.args.text.now c.pieces.result c.pieces.ensures.tokens c.pieces.ensures.fault

pub returns-clause-only_fault : goal.returns-clause-only_fault
returns-clause-only_fault c =
    answers_fault c.args.text.now c.pieces.result c.pieces.ensures.tokens c.pieces.ensures.fault

pub returns-clause-within : goal.returns-clause-within
returns-clause-within c =
    IfOk-weaker c.pieces.result _ _ (λ v h. are_within c.args.text.now v.items h) c.pieces.ensures.tokens

pub returns-clause-named : goal.returns-clause-named
returns-clause-named c =
    IfOk-weaker c.pieces.result _ _ (λ v h. are_named c.args.text.now v.items h) c.pieces.ensures.tokens

pub returns-clause-few : goal.returns-clause-few
returns-clause-few c =
    IfOk-weaker c.pieces.result _ _ (λ v h. are_few c.args.text.now v.items h) c.pieces.ensures.tokens

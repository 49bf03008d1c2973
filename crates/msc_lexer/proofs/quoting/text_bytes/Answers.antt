use Rattle.std.proofs.lemmas.Result.{IfOk-weaker}
use Rattle.msc_lexer.proofs.Quotes.{held}
use Rattle.msc_lexer.proofs.quoting.text_bytes.Goals as goal

pub returns-clause-value : goal.returns-clause-value
returns-clause-value c =
    let text = c.requires.within.as_text c.requires.text in
    IfOk-weaker c.halved.result _ _ (λ v h. held _ text.0 v.items text.1 h) c.halved.ensures

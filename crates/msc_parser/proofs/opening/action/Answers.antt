use Rattle.msc_parser.specs.Places.{ActionText, StatementEnd}
use Rattle.msc_parser.proofs.Steps.{exits, Stops-back}
use Rattle.msc_parser.proofs.Actions.{text_refused, text_leads, action_read}
use Rattle.msc_parser.proofs.opening.action.Goals as goal

pub returns-in_err-label : goal.returns-in_err-label
returns-in_err-label c = λ p.
    exits c.args.text.now _ (ActionText p) p c.args.tokens.now _ c.in_err-label.field-0.0 c.from_residual.ensures.1 (text_refused c.args.text.now c.args.tokens.now _ c.in_err-label.ensures p)

pub returns-in_err-rest : goal.returns-in_err-rest
returns-in_err-rest c = λ p.
    exits c.args.text.now _ (ActionText p) p c.args.tokens.now _ c.in_err-rest.field-0.0 c.from_residual-in_err-rest.ensures.1
    (Stops-back c.args.text.now (ActionText p) (StatementEnd p) c.args.tokens.now c.in_ok-label.rest.now _ (text_leads c.args.text.now p _ _ _ c.in_ok-label.ensures) (c.in_err-rest.ensures p))

pub returns : goal.returns
returns c = λ p.
    action_read c.args.text.now p _ _ _ _ c.in_ok-label.ensures c.in_ok-rest.ensures

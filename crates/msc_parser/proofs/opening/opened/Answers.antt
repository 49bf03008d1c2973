use Rattle.msc_parser.specs.Places.{Message, ActionText}
use Rattle.msc_parser.proofs.Steps.{exits}
use Rattle.msc_parser.proofs.Actions.{message_opened, action_opened}
use Rattle.msc_parser.proofs.opening.opened.Goals as goal

pub returns-in_err-signal-in-Message : goal.returns-in_err-signal-in-Message
returns-in_err-signal-in-Message c =
    rw c.in-Message.is (λ p. exits c.args.text.now _ (Message c.in-Message.direction p) p c.args.tokens.now _ c.in_err-signal-in-Message.field-0.0 c.from_residual.ensures.1 (c.in_err-signal-in-Message.ensures p))

pub returns-in_err-label-in-Action : goal.returns-in_err-label-in-Action
returns-in_err-label-in-Action c =
    rw c.in-Action.is (λ p. exits c.args.text.now _ (ActionText p) p c.args.tokens.now _ c.in_err-label-in-Action.field-0.0 c.from_residual-in_err-label-in-Action.ensures.1 (c.in_err-label-in-Action.ensures p))

pub returns-in_ok-signal-in-Message : goal.returns-in_ok-signal-in-Message
returns-in_ok-signal-in-Message c =
    rw c.in-Message.is (λ p. message_opened c.args.text.now c.in-Message.direction p _ _ _ (c.in_ok-signal-in-Message.ensures p))

pub returns-in_ok-label-in-Action : goal.returns-in_ok-label-in-Action
returns-in_ok-label-in-Action c =
    rw c.in-Action.is (λ p. action_opened c.args.text.now p _ _ _ (c.in_ok-label-in-Action.ensures p))

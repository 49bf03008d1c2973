use Rattle.std.proofs.Common.{◌∙◌}
use Rattle.msc_parser.specs.declared.tree.Direction.TheVariants.{Output}
use Rattle.msc_parser.specs.Places.{Start, Message, AfterMessage, AfterNumber, AfterParameters}
use Rattle.msc_parser.proofs.Steps.{exits, Stops-back}
use Rattle.msc_parser.proofs.Signals.{signal_refused, message_leads, signal_read}
use Rattle.msc_parser.proofs.signalling.signal.Goals as goal

pub returns-in_err-name : goal.returns-in_err-name
returns-in_err-name c = λ p.
    exits c.args.text.now _ (Message c.args.direction p) p c.args.tokens.now _ c.in_err-name.field-0.0 c.from_residual.ensures.1 (signal_refused c.args.text.now c.args.direction c.args.tokens.now _ c.in_err-name.ensures p)

pub returns-in_err-number : goal.returns-in_err-number
returns-in_err-number c = λ p.
    let w = c.args.direction in
    exits c.args.text.now _ (Message w p) p c.args.tokens.now _ c.in_err-number.field-0.0 c.from_residual-in_err-number.ensures.1
    (Stops-back c.args.text.now (Message w p) (AfterMessage w p) c.args.tokens.now c.in_ok-name.rest.now _ (message_leads c.args.text.now w p _ _ _ c.in_ok-name.ensures) (c.in_err-number.ensures w p))

pub parameters-requires : goal.parameters-requires
parameters-requires c = (c.in_ok-number.ensures Output Start).within

pub returns-in_err-parameters : goal.returns-in_err-parameters
returns-in_err-parameters c = λ p.
    let w = c.args.direction in
    exits c.args.text.now _ (Message w p) p c.args.tokens.now _ c.in_err-parameters.field-0.0 c.from_residual-in_err-parameters.ensures.1
    (Stops-back c.args.text.now (Message w p) (AfterNumber w p) c.args.tokens.now c.in_ok-number.rest.now _ (message_leads c.args.text.now w p _ _ _ c.in_ok-name.ensures ∙ (c.in_ok-number.ensures w p).leads) (c.in_err-parameters.ensures w p))

pub address-requires : goal.address-requires
address-requires c = (c.in_ok-parameters.ensures Output Start).within

pub returns-in_err-address : goal.returns-in_err-address
returns-in_err-address c = λ p.
    let w = c.args.direction in
    exits c.args.text.now _ (Message w p) p c.args.tokens.now _ c.in_err-address.field-0.0 c.from_residual-in_err-address.ensures.1
    (Stops-back c.args.text.now (Message w p) (AfterParameters w p) c.args.tokens.now c.in_ok-parameters.rest.now _
    (message_leads c.args.text.now w p _ _ _ c.in_ok-name.ensures ∙ (c.in_ok-number.ensures w p).leads ∙ (c.in_ok-parameters.ensures w p).leads)
    (c.in_err-address.ensures p))

pub returns : goal.returns
returns c = λ p.
    let w = c.args.direction in
    signal_read c.args.text.now w p c.in_ok-name.ensures (c.in_ok-number.ensures w p) (c.in_ok-parameters.ensures w p) (c.in_ok-address.ensures p)

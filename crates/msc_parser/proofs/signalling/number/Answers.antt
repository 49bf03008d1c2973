use Rattle.msc_parser.specs.Places.{AfterMessage, AfterNumber}
use Rattle.msc_parser.proofs.Steps.{not_both, exits}
use Rattle.msc_parser.proofs.Endings.{within_others}
use Rattle.msc_parser.proofs.Signals.{number_none, number_refused, number_some}
use Rattle.msc_parser.proofs.signalling.number.Goals as goal

pub returns-then-not-stands : goal.returns-then-not-stands
returns-then-not-stands c =
    number_none c.args.text.now c.args.tokens.now c.requires (λ e. not_both c.stands.ensures c.if-not-stands.true e)

pub take_name-requires : goal.take_name-requires
take_name-requires c = within_others c.args.text.now c.args.tokens.now c.requires

pub returns-in_err-number : goal.returns-in_err-number
returns-in_err-number c = λ w p.
    exits c.args.text.now _ (AfterMessage w p) (AfterNumber w p) c.args.tokens.now _ c.in_err-number.field-0.0 c.from_residual.ensures.1
    (number_refused c.args.text.now c.args.tokens.now _ c.requires (c.stands.ensures.0 c.if-not-stands.false) c.in_err-number.ensures w p)

pub returns : goal.returns
returns c =
    number_some c.args.text.now c.args.tokens.now c.in_ok-number.rest.now _ c.requires (c.stands.ensures.0 c.if-not-stands.false) c.in_ok-number.ensures

use Rattle.std.proofs.Common.{◌∙◌}
use Rattle.msc_parser.specs.Places.{AfterParameters, Address, StatementEnd}
use Rattle.msc_parser.proofs.Steps.{exits, Stops-back}
use Rattle.msc_parser.proofs.Signals.{address_leads, end_leads, word_refused, address_refused, address_read}
use Rattle.msc_parser.proofs.signalling.address.Goals as goal

pub returns-in_err-rest : goal.returns-in_err-rest
returns-in_err-rest c = λ p.
    let w = c.args.direction in
    exits c.args.text.now _ (AfterParameters w p) p c.args.tokens.now _ c.in_err-rest.field-0.0 c.from_residual.ensures.1
    (word_refused c.args.text.now w p _ c.address_word.result c.address_what.result _ c.address_word.ensures c.address_what.ensures c.in_err-rest.ensures)

pub returns-in_err-address : goal.returns-in_err-address
returns-in_err-address c = λ p.
    let w = c.args.direction in
    exits c.args.text.now _ (AfterParameters w p) p c.args.tokens.now _ c.in_err-address.field-0.0 c.from_residual-in_err-address.ensures.1
    (Stops-back c.args.text.now (AfterParameters w p) (Address p) c.args.tokens.now c.in_ok-rest.rest.now _
    (address_leads c.args.text.now w p _ _ c.address_word.result c.address_word.ensures c.in_ok-rest.ensures.1)
    (address_refused c.args.text.now p _ _ c.in_err-address.ensures))

pub returns-in_err-rest-2 : goal.returns-in_err-rest-2
returns-in_err-rest-2 c = λ p.
    let w = c.args.direction in
    exits c.args.text.now _ (AfterParameters w p) p c.args.tokens.now _ c.in_err-rest-2.field-0.0 c.from_residual-in_err-rest-2.ensures.1
    (Stops-back c.args.text.now (AfterParameters w p) (StatementEnd p) c.args.tokens.now c.in_ok-address.rest.now _
    (address_leads c.args.text.now w p _ _ c.address_word.result c.address_word.ensures c.in_ok-rest.ensures.1 ∙ end_leads c.args.text.now p _ _ _ c.in_ok-address.ensures)
    (c.in_err-rest-2.ensures p))

pub returns : goal.returns
returns c = λ p.
    address_read c.args.text.now c.args.direction p c.address_word.ensures c.in_ok-rest.ensures.1 c.in_ok-address.ensures c.in_ok-rest-2.ensures

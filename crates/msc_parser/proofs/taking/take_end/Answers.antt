use Rattle.msc_parser.proofs.Steps.{not_both}
use Rattle.msc_parser.proofs.Endings.{within_others, ends_plain, ends_without_text, ends_commented}
use Rattle.msc_parser.proofs.taking.take_end.Goals as goal

pub returns-then-not-stands : goal.returns-then-not-stands
returns-then-not-stands c =
    ends_plain c.args.text.now c.args.tokens.now c.take.result (λ e. not_both c.stands.ensures c.if-not-stands.true e) c.take.ensures

pub take-requires-2 : goal.take-requires-2
take-requires-2 c = within_others c.args.text.now c.args.tokens.now c.requires

pub returns-in_err-rest : goal.returns-in_err-rest
returns-in_err-rest c =
    ends_without_text c.args.text.now c.args.tokens.now _ c.in_err-rest.field-0.0 c.requires (c.stands.ensures.0 c.if-not-stands.false) c.from_residual.ensures.1 c.in_err-rest.ensures

pub returns : goal.returns
returns c =
    ends_commented c.args.text.now c.args.tokens.now c.in_ok-rest.rest.now _ c.take-3.result c.requires (c.stands.ensures.0 c.if-not-stands.false) c.in_ok-rest.ensures.1 c.take-3.ensures

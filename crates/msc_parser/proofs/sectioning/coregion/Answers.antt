use Rattle.std.proofs.Common.{◌∙◌}
use Rattle.msc_parser.specs.Places.{Events, Items, StatementEnd}
use Rattle.msc_parser.proofs.Steps.{exits, Stops-back}
use Rattle.msc_parser.proofs.Lines.{coregion_read}
use Rattle.msc_parser.proofs.sectioning.coregion.Goals as goal

pub returns-in_err-rest : goal.returns-in_err-rest
returns-in_err-rest c =
    exits c.args.text.now _ (StatementEnd Events) Items c.args.tokens.now _ c.in_err-rest.field-0.0 c.from_residual.ensures.1 (c.in_err-rest.ensures Events)

pub returns-in_err-events : goal.returns-in_err-events
returns-in_err-events c =
    exits c.args.text.now _ (StatementEnd Events) Items c.args.tokens.now _ c.in_err-events.field-0.0 c.from_residual-in_err-events.ensures.1
    (Stops-back c.args.text.now (StatementEnd Events) Events c.args.tokens.now c.in_ok-rest.rest.now _ (c.in_ok-rest.ensures.leads Events) c.in_err-events.ensures)

pub returns-in_err-rest-2 : goal.returns-in_err-rest-2
returns-in_err-rest-2 c =
    exits c.args.text.now _ (StatementEnd Events) Items c.args.tokens.now _ c.in_err-rest-2.field-0.0 c.from_residual-in_err-rest-2.ensures.1
    (Stops-back c.args.text.now (StatementEnd Events) (StatementEnd Items) c.args.tokens.now c.in_ok-events.rest.now _ (c.in_ok-rest.ensures.leads Events ∙ c.in_ok-events.ensures.leads) (c.in_err-rest-2.ensures Items))

pub returns : goal.returns
returns c =
    coregion_read c.args.text.now c.args.tokens.now c.in_ok-rest.rest.now c.in_ok-events.rest.now c.in_ok-rest-2.rest.now _ c.in_ok-rest.ensures c.in_ok-events.ensures c.in_ok-rest-2.ensures

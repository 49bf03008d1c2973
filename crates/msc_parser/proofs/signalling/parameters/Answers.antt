use Rattle.std.proofs.Common.{◌∙◌}
use Rattle.msc_parser.specs.declared.tree.Direction.TheVariants.{Output}
use Rattle.msc_parser.specs.Places.{Start, AfterNumber, AfterParameters}
use Rattle.msc_parser.proofs.Steps.{not_both, exits}
use Rattle.msc_parser.proofs.Endings.{within_others}
use Rattle.msc_parser.proofs.Signals.{parameters_none, parameters_empty, names_stop, close_refused, parameters_read}
use Rattle.msc_parser.proofs.signalling.parameters.Goals as goal

pub returns-then-not-stands : goal.returns-then-not-stands
returns-then-not-stands c =
    parameters_none c.args.text.now c.args.tokens.now _ c.requires (λ e. not_both c.stands.ensures c.if-not-stands.true e) (c.from_vec.ensures ∙ c.new.ensures.items)

pub returns-then-stands : goal.returns-then-stands
returns-then-stands c =
    parameters_empty c.args.text.now c.args.tokens.now _ c.requires (c.stands.ensures.0 c.if-not-stands.false) (c.stands-2.ensures.0 c.if-stands.true) (c.from_vec-then-stands.ensures ∙ c.new-then-stands.ensures.items)

pub names-requires-clause-within : goal.names-requires-clause-within
names-requires-clause-within c = within_others c.args.text.now c.args.tokens.now c.requires

pub returns-in_err-names : goal.returns-in_err-names
returns-in_err-names c = λ w p.
    exits c.args.text.now _ (AfterNumber w p) (AfterParameters w p) c.args.tokens.now _ c.in_err-names.field-0.0 c.from_residual.ensures.1
    (names_stop c.args.text.now c.args.tokens.now _ c.requires (c.stands.ensures.0 c.if-not-stands.false) w p (c.in_err-names.ensures.reads w p))

pub take-requires : goal.take-requires
take-requires c = (c.in_ok-names.ensures.reads Output Start).within

pub returns-in_err-rest : goal.returns-in_err-rest
returns-in_err-rest c = λ w p.
    exits c.args.text.now _ (AfterNumber w p) (AfterParameters w p) c.args.tokens.now _ c.in_err-rest.field-0.0 c.from_residual-in_err-rest.ensures.1
    (close_refused c.args.text.now c.args.tokens.now _ c.requires (c.stands.ensures.0 c.if-not-stands.false) w p (c.in_ok-names.ensures.reads w p) c.in_ok-names.ensures.stopped c.in_err-rest.ensures)

pub returns : goal.returns
returns c = λ w p.
    parameters_read c.args.text.now c.args.tokens.now c.requires (c.stands.ensures.0 c.if-not-stands.false) w p (c.in_ok-names.ensures.reads w p) c.in_ok-rest.ensures.1

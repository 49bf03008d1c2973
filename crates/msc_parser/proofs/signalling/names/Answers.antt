use Rattle.std.proofs.Common.{refl}
use Rattle.msc_parser.specs.Forms.{IsNamed}
use Rattle.msc_parser.specs.declared.tree.Direction.TheVariants.{Output}
use Rattle.msc_parser.specs.Places.{Start, Parameters, Parameter, AfterParameter}
use Rattle.msc_parser.proofs.Steps.{exits}
use Rattle.msc_parser.proofs.Endings.{within_others}
use Rattle.msc_parser.proofs.Parts.{pushed_one, named_read, listed_first, listed_more, listed_stops}
use Rattle.msc_parser.proofs.Signals.{first_refused, next_refused}
use Rattle.msc_parser.proofs.signalling.names.Goals as goal

pub returns-in_err-first-clause-reads : goal.returns-in_err-first-clause-reads
returns-in_err-first-clause-reads c = λ w p.
    exits c.args.text.now _ (Parameters w p) (AfterParameter w p) c.args.tokens.now _ c.in_err-first.field-0.0 c.from_residual.ensures.1
    (first_refused c.args.text.now c.args.tokens.now _ c.requires.some c.in_err-first.ensures w p)

pub names-init : goal.names-init
names-init c = λ w p.
    listed_first c.args.text.now IsNamed (Parameters w p) (AfterParameter w p)
    (named_read c.args.text.now (Parameters w p) (AfterParameter w p) c.args.tokens.now c.in_ok-first.rest.now _ c.in_ok-first.ensures refl)
    (pushed_one c.new-names.result.items c.push.new.self.items _ c.new-names.ensures.items c.in_ok-push.ensures.items)

pub take_name-requires-in-names : goal.take_name-requires-in-names
take_name-requires-in-names c =
    within_others c.args.text.now c.names.rest.now (c.names.invariant Output Start).within

pub returns-in_err-more-clause-reads : goal.returns-in_err-more-clause-reads
returns-in_err-more-clause-reads c = λ w p.
    exits c.args.text.now _ (Parameters w p) (AfterParameter w p) c.args.tokens.now _ c.in_err-more.field-0.0 c.from_residual-in_err-more.ensures.1
    (listed_stops c.args.text.now IsNamed (Parameters w p) (AfterParameter w p) (Parameter w p) _ (c.names.invariant w p) (c.stands.ensures.0 c.names-test.true) refl
    (next_refused c.args.text.now _ _ c.in_err-more.ensures w p))

pub names-preserved : goal.names-preserved
names-preserved c = λ w p.
    rw c.in_ok-push-2.ensures.items
    (listed_more c.args.text.now IsNamed (Parameters w p) (AfterParameter w p) (Parameter w p)
    (c.names.invariant w p) (c.stands.ensures.0 c.names-test.true) refl
    (named_read c.args.text.now (Parameter w p) (AfterParameter w p) _ c.in_ok-more.after.now _ c.in_ok-more.ensures refl))

pub returns-clause-reads : goal.returns-clause-reads
returns-clause-reads c = λ w p. rw c.from_vec.ensures (c.names.invariant w p)

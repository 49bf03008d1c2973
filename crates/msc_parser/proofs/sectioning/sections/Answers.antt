use Rattle.std.proofs.Common.{refl}
use Rattle.msc_parser.specs.Grammar.{IsSection}
use Rattle.msc_parser.specs.Places.{Sections, StatementEnd, Done}
use Rattle.msc_parser.proofs.Steps.{not_both, exits}
use Rattle.msc_parser.proofs.Parts.{many_up_to}
use Rattle.msc_parser.proofs.Lines.{sections_more, sections_stop, sections_refused}
use Rattle.msc_parser.proofs.sectioning.sections.Goals as goal

pub returns-in_err-section : goal.returns-in_err-section
returns-in_err-section c =
    exits c.args.text.now _ Sections (StatementEnd Done) c.args.tokens.now _ c.in_err-section.field-0.0 c.from_residual.ensures.1
    (sections_stop c.args.text.now c.args.tokens.now c.instances.rest.now c.instances.sections.items _ c.instances.invariant (c.stands.ensures.0 c.instances-test.true) c.in_err-section.ensures)

pub instances-preserved : goal.instances-preserved
instances-preserved c =
    rw c.in_ok-push.ensures.items
    (sections_more c.args.text.now c.instances.invariant (c.stands.ensures.0 c.instances-test.true) c.in_ok-section.ensures)

pub returns-in_err-rest : goal.returns-in_err-rest
returns-in_err-rest c =
    exits c.args.text.now _ Sections (StatementEnd Done) c.args.tokens.now _ c.in_err-rest.field-0.0 c.from_residual-in_err-rest.ensures.1
    (sections_refused c.args.text.now c.args.tokens.now c.instances.rest.now c.instances.sections.items _ c.instances.invariant (λ e. not_both c.stands.ensures c.instances-test.false e) c.in_err-rest.ensures)

pub returns : goal.returns
returns c =
    rw c.from_vec.ensures (many_up_to c.args.text.now IsSection Sections (StatementEnd Done) c.instances.invariant c.in_ok-rest.ensures.1 refl)

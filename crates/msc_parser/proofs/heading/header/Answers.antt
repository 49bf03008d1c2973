use Rattle.msc_parser.specs.Places.{Header, Sections}
use Rattle.msc_parser.proofs.Steps.{not_both, exits}
use Rattle.msc_parser.proofs.Headings.{header_more, header_stops, header_read}
use Rattle.msc_parser.proofs.heading.header.Goals as goal

pub returns-in_err-decls : goal.returns-in_err-decls
returns-in_err-decls c =
    exits c.args.text.now _ Header Sections c.args.tokens.now _ c.in_err-decls.field-0.0 c.from_residual.ensures.1
    (header_stops c.args.text.now c.args.tokens.now c.statements.rest.now c.statements.header.items _ c.statements.invariant (c.stands.ensures.0 c.statements-test.true) c.in_err-decls.ensures)

pub statements-preserved : goal.statements-preserved
statements-preserved c =
    rw (c.in_ok-append.ensures.items, c.into_vec-decls.ensures)
    (header_more c.args.text.now c.statements.invariant (c.stands.ensures.0 c.statements-test.true) c.in_ok-decls.ensures)

pub returns : goal.returns
returns c =
    rw c.from_vec.ensures (header_read c.args.text.now c.args.tokens.now c.statements.rest.now c.statements.header.items c.statements.invariant (λ e. not_both c.stands.ensures c.statements-test.false e))

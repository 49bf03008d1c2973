use Rattle.msc_parser.specs.Places.{DeclName, DeclEnd}
use Rattle.msc_parser.proofs.Steps.{exits}
use Rattle.msc_parser.proofs.Headings.{decl_read, decl_refused, decl_kind_refused}
use Rattle.msc_parser.proofs.heading.decl.Goals as goal

pub returns-in_err-name : goal.returns-in_err-name
returns-in_err-name c = λ st.
    exits c.args.text.now _ (DeclName st) (DeclEnd st) c.args.tokens.now _ c.in_err-name.field-0.0 c.from_residual.ensures.1 (decl_refused c.args.text.now c.args.tokens.now _ c.in_err-name.ensures st)

pub returns-in_err-kind : goal.returns-in_err-kind
returns-in_err-kind c = λ st.
    exits c.args.text.now _ (DeclName st) (DeclEnd st) c.args.tokens.now _ c.in_err-kind.field-0.0 c.from_residual-in_err-kind.ensures.1
    (decl_kind_refused c.args.text.now c.args.tokens.now c.in_ok-name.rest.now _ _ st c.in_ok-name.ensures (c.in_err-kind.ensures st))

pub returns : goal.returns
returns c =
    λ st. decl_read c.args.text.now c.args.tokens.now c.in_ok-name.rest.now c.in_ok-kind.rest.now _ _ st c.in_ok-name.ensures (c.in_ok-kind.ensures st)

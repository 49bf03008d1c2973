use Rattle.std.proofs.Common.{refl}
use Rattle.msc_parser.specs.Grammar.{IsDecl}
use Rattle.msc_parser.specs.Places.{InInst, DeclName, DeclEnd, Header}
use Rattle.msc_parser.proofs.Steps.{not_both, exits}
use Rattle.msc_parser.proofs.Endings.{within_others}
use Rattle.msc_parser.proofs.Parts.{pushed_one, listed_first, listed_more, listed_stops}
use Rattle.msc_parser.proofs.Headings.{inst_read, inst_end_refused}
use Rattle.msc_parser.proofs.heading.inst.Goals as goal

pub returns-in_err-first : goal.returns-in_err-first
returns-in_err-first c =
    exits c.args.text.now _ (DeclName InInst) Header c.args.tokens.now _ c.in_err-first.field-0.0 c.from_residual.ensures.1 (c.in_err-first.ensures InInst)

pub decls-init : goal.decls-init
decls-init c =
    listed_first c.args.text.now IsDecl (DeclName InInst) (DeclEnd InInst) (c.in_ok-first.ensures InInst)
    (pushed_one c.new-decls.result.items c.push.new.self.items _ c.new-decls.ensures.items c.in_ok-push.ensures.items)

pub decl-requires-in-decls : goal.decl-requires-in-decls
decl-requires-in-decls c = within_others c.args.text.now c.decls.rest.now c.decls.invariant.within

pub returns-in_err-more : goal.returns-in_err-more
returns-in_err-more c =
    exits c.args.text.now _ (DeclName InInst) Header c.args.tokens.now _ c.in_err-more.field-0.0 c.from_residual-in_err-more.ensures.1
    (listed_stops c.args.text.now IsDecl (DeclName InInst) (DeclEnd InInst) (DeclName InInst) _ c.decls.invariant (c.stands.ensures.0 c.decls-test.true) refl (c.in_err-more.ensures InInst))

pub decls-preserved : goal.decls-preserved
decls-preserved c =
    rw c.in_ok-push-2.ensures.items
    (listed_more c.args.text.now IsDecl (DeclName InInst) (DeclEnd InInst) (DeclName InInst)
    c.decls.invariant (c.stands.ensures.0 c.decls-test.true) refl (c.in_ok-more.ensures InInst))

pub returns-in_err-rest : goal.returns-in_err-rest
returns-in_err-rest c =
    exits c.args.text.now _ (DeclName InInst) Header c.args.tokens.now _ c.in_err-rest.field-0.0 c.from_residual-in_err-rest.ensures.1
    (inst_end_refused c.args.text.now c.args.tokens.now c.decls.rest.now c.decls.decls.items _ c.decls.invariant (λ e. not_both c.stands.ensures c.decls-test.false e) c.in_err-rest.ensures)

pub returns : goal.returns
returns c =
    inst_read c.args.text.now c.args.tokens.now c.decls.rest.now c.in_ok-rest.rest.now c.from_vec.result (rw c.from_vec.ensures c.decls.invariant) (λ e. not_both c.stands.ensures c.decls-test.false e) c.in_ok-rest.ensures

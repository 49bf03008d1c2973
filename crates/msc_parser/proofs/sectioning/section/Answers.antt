use Rattle.std.proofs.Common.{◌∙◌}
use Rattle.msc_parser.specs.Places.{InInstance, DeclName, Items, Sections, StatementEnd}
use Rattle.msc_parser.proofs.Steps.{exits, Stops-back}
use Rattle.msc_parser.proofs.Lines.{section_decl_leads, section_read}
use Rattle.msc_parser.proofs.sectioning.section.Goals as goal

pub returns-in_err-decl : goal.returns-in_err-decl
returns-in_err-decl c =
    exits c.args.text.now _ (DeclName InInstance) Sections c.args.tokens.now _ c.in_err-decl.field-0.0 c.from_residual.ensures.1 (c.in_err-decl.ensures InInstance)

pub take_end-requires : goal.take_end-requires
take_end-requires c = (c.in_ok-decl.ensures InInstance).within

pub returns-in_err-rest : goal.returns-in_err-rest
returns-in_err-rest c =
    exits c.args.text.now _ (DeclName InInstance) Sections c.args.tokens.now _ c.in_err-rest.field-0.0 c.from_residual-in_err-rest.ensures.1
    (Stops-back c.args.text.now (DeclName InInstance) (StatementEnd Items) c.args.tokens.now c.in_ok-decl.rest.now _ (section_decl_leads c.args.text.now _ _ _ (c.in_ok-decl.ensures InInstance)) (c.in_err-rest.ensures Items))

pub returns-in_err-items : goal.returns-in_err-items
returns-in_err-items c =
    exits c.args.text.now _ (DeclName InInstance) Sections c.args.tokens.now _ c.in_err-items.field-0.0 c.from_residual-in_err-items.ensures.1
    (Stops-back c.args.text.now (DeclName InInstance) Items c.args.tokens.now c.in_ok-rest.rest.now _ (section_decl_leads c.args.text.now _ _ _ (c.in_ok-decl.ensures InInstance) ∙ c.in_ok-rest.ensures.leads Items) c.in_err-items.ensures)

pub returns-in_err-rest-2 : goal.returns-in_err-rest-2
returns-in_err-rest-2 c =
    exits c.args.text.now _ (DeclName InInstance) Sections c.args.tokens.now _ c.in_err-rest-2.field-0.0 c.from_residual-in_err-rest-2.ensures.1
    (Stops-back c.args.text.now (DeclName InInstance) (StatementEnd Sections) c.args.tokens.now c.in_ok-items.rest.now _
    (section_decl_leads c.args.text.now _ _ _ (c.in_ok-decl.ensures InInstance) ∙ c.in_ok-rest.ensures.leads Items ∙ c.in_ok-items.ensures.leads) (c.in_err-rest-2.ensures Sections))

pub returns : goal.returns
returns c =
    section_read c.args.text.now (c.in_ok-decl.ensures InInstance) c.in_ok-rest.ensures c.in_ok-items.ensures c.in_ok-rest-2.ensures

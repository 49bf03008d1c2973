use Rattle.msc_lexer.specs.declared.token.Kind.TheVariants as kinds
use Rattle.msc_parser.specs.Places.{Items}
use Rattle.msc_parser.specs.Reading.{opening_word}
use Rattle.msc_parser.proofs.Leading.{item_leads}
use Rattle.msc_parser.proofs.Steps.{not_both, exits}
use Rattle.msc_parser.proofs.Endings.{within_others}
use Rattle.msc_parser.proofs.Lines.{event_stops, item_refused, single_read, coregion_item, coregion_stops, shorter_behind}
use Rattle.msc_parser.proofs.sectioning.item.Goals as goal

pub coregion-requires : goal.coregion-requires
coregion-requires c = within_others c.args.text.now c.args.tokens.now c.requires.within

pub returns-in_err-events-clause-reads : goal.returns-in_err-events-clause-reads
returns-in_err-events-clause-reads c =
    exits c.args.text.now _ Items Items c.args.tokens.now _ c.in_err-events.field-0.0 c.from_residual.ensures.1 (coregion_stops c.args.text.now c.args.tokens.now _ c.requires.within (c.stands.ensures.0 c.if-stands.true) c.in_err-events.ensures)

pub returns-then-stands-clause-reads : goal.returns-then-stands-clause-reads
returns-then-stands-clause-reads c =
    coregion_item c.args.text.now c.args.tokens.now c.in_ok-events.rest.now _ c.requires.within (c.stands.ensures.0 c.if-stands.true) c.in_ok-events.ensures

pub returns-then-stands-clause-uses : goal.returns-then-stands-clause-uses
returns-then-stands-clause-uses c =
    shorter_behind c.args.text.now _ c.args.tokens.now c.in_ok-events.rest.now c.requires.within (c.stands.ensures.0 c.if-stands.true) c.in_ok-events.ensures.shorter

pub returns-in_default-clause-reads : goal.returns-in_default-clause-reads
returns-in_default-clause-reads c =
    item_refused c.args.text.now c.args.tokens.now _ c.in_default.ensures.none (λ e. not_both c.stands.ensures c.if-stands.false e) c.requires.goes_on c.unexpected.ensures

pub opened-requires : goal.opened-requires
opened-requires c = within_others c.args.text.now c.args.tokens.now c.requires.within

pub returns-in_err-event-clause-reads : goal.returns-in_err-event-clause-reads
returns-in_err-event-clause-reads c =
    exits c.args.text.now _ Items Items c.args.tokens.now _ c.in_err-event.field-0.0 c.from_residual-in_err-event.ensures.1
    (event_stops c.args.text.now c.in-Some.opening Items c.args.tokens.now _ c.requires.within c.in-Some.ensures.some item_leads (c.in_err-event.ensures Items))

pub returns-clause-reads : goal.returns-clause-reads
returns-clause-reads c =
    single_read c.args.text.now c.in-Some.opening c.args.tokens.now c.in_ok-event.rest.now _ c.requires.within c.in-Some.ensures.some (c.in_ok-event.ensures Items)

pub returns-clause-uses : goal.returns-clause-uses
returns-clause-uses c =
    shorter_behind c.args.text.now (kinds.Word (opening_word c.in-Some.opening)) c.args.tokens.now c.in_ok-event.rest.now c.requires.within c.in-Some.ensures.some (c.in_ok-event.ensures Items).shorter

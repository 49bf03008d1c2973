use Rattle.msc_parser.proofs.Endings.{within_others}
use Rattle.msc_parser.proofs.Lines.{event_refused, event_answer}
use Rattle.msc_parser.proofs.sectioning.event.Goals as goal

pub returns-in_default-clause-reads : goal.returns-in_default-clause-reads
returns-in_default-clause-reads c =
    event_refused c.args.text.now c.args.tokens.now _ c.in_default.ensures.none c.requires.goes_on c.unexpected.ensures

pub opened-requires : goal.opened-requires
opened-requires c = within_others c.args.text.now c.args.tokens.now c.requires.within

pub returns-clause-reads : goal.returns-clause-reads
returns-clause-reads c =
    (event_answer c.args.text.now c.in-Some.opening c.args.tokens.now c.opened.result c.requires.within c.in-Some.ensures.some c.opened.ensures).0

pub returns-clause-uses : goal.returns-clause-uses
returns-clause-uses c =
    (event_answer c.args.text.now c.in-Some.opening c.args.tokens.now c.opened.result c.requires.within c.in-Some.ensures.some c.opened.ensures).1

use Rattle.std.proofs.Common.{refl}
use Rattle.msc_lexer.specs.declared.word.Word.TheVariants as words
use Rattle.msc_lexer.specs.declared.token.Kind.TheVariants as kinds
use Rattle.msc_parser.specs.Grammar.{IsEvent}
use Rattle.msc_parser.specs.Places.{Events, Items, StatementEnd}
use Rattle.msc_parser.proofs.Steps.{took}
use Rattle.msc_parser.proofs.Parts.{many_more, many_up_to}
use Rattle.msc_parser.proofs.sectioning.events.Goals as goal

pub statements-preserved : goal.statements-preserved
statements-preserved c =
    rw c.in_ok-push.ensures.items
    (many_more c.args.text.now IsEvent Events c.statements.invariant c.in_ok-event.ensures.reads)

pub returns : goal.returns
returns c =
    rw c.from_vec.ensures (many_up_to c.args.text.now IsEvent Events (StatementEnd Items) c.statements.invariant
    (took c.args.text.now (kinds.Word words.EndConcurrent) c.statements.rest.now c.statements.invariant.within (c.stands.ensures.0 c.statements-test.false)).1 refl)

use Rattle.std.proofs.Common.{refl}
use Rattle.msc_lexer.specs.declared.word.Word.TheVariants as words
use Rattle.msc_lexer.specs.declared.token.Kind.TheVariants as kinds
use Rattle.msc_parser.specs.Grammar.{IsItem}
use Rattle.msc_parser.specs.Places.{Items, Sections, StatementEnd}
use Rattle.msc_parser.proofs.Steps.{took}
use Rattle.msc_parser.proofs.Parts.{many_more, many_up_to}
use Rattle.msc_parser.proofs.sectioning.items.Goals as goal

pub statements-preserved : goal.statements-preserved
statements-preserved c =
    rw c.in_ok-push.ensures.items
    (many_more c.args.text.now IsItem Items c.statements.invariant c.in_ok-item.ensures.reads)

pub returns : goal.returns
returns c =
    rw c.from_vec.ensures (many_up_to c.args.text.now IsItem Items (StatementEnd Sections) c.statements.invariant
    (took c.args.text.now (kinds.Word words.EndInstance) c.statements.rest.now c.statements.invariant.within (c.stands.ensures.0 c.statements-test.false)).1 refl)

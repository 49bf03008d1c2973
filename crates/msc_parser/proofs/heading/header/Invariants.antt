use Rattle.std.proofs.Common.{length}
use Rattle.msc_parser.specs.Grammar.{IsHeader}
use Rattle.msc_parser.specs.Places.{Header}
use Rattle.msc_parser.specs.Reading.{DidRead}
use Rattle.msc_parser.proofs.heading.header.Given as goal

abbrev pub invariant-statements : goal.invariant-statements
invariant-statements l = DidRead l.text IsHeader Header Header l.tokens l.rest l.header.items

abbrev pub decreases-statements : goal.decreases-statements
decreases-statements l = length l.rest

use Rattle.std.proofs.Common.{length}
use Rattle.msc_parser.specs.Forms.{AreMany}
use Rattle.msc_parser.specs.Grammar.{IsItem}
use Rattle.msc_parser.specs.Places.{Items}
use Rattle.msc_parser.specs.Reading.{DidRead}
use Rattle.msc_parser.proofs.sectioning.items.Given as goal

abbrev pub invariant-statements : goal.invariant-statements
invariant-statements l = DidRead l.text (AreMany IsItem) Items Items l.tokens l.rest l.items.items

abbrev pub decreases-statements : goal.decreases-statements
decreases-statements l = length l.rest

use Rattle.std.proofs.Common.{length}
use Rattle.msc_parser.specs.Forms.{AreMany}
use Rattle.msc_parser.specs.Grammar.{IsEvent}
use Rattle.msc_parser.specs.Places.{Events}
use Rattle.msc_parser.specs.Reading.{DidRead}
use Rattle.msc_parser.proofs.sectioning.events.Given as goal

abbrev pub invariant-statements : goal.invariant-statements
invariant-statements l =
    DidRead l.text (AreMany IsEvent) Events Events l.tokens l.rest l.events.items

abbrev pub decreases-statements : goal.decreases-statements
decreases-statements l = length l.rest

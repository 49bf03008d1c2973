use Rattle.std.proofs.Common.{length}
use Rattle.msc_parser.specs.Forms.{AreMany}
use Rattle.msc_parser.specs.Grammar.{IsSection}
use Rattle.msc_parser.specs.Places.{Sections}
use Rattle.msc_parser.specs.Reading.{DidRead}
use Rattle.msc_parser.proofs.sectioning.sections.Given as goal

abbrev pub invariant-instances : goal.invariant-instances
invariant-instances l =
    DidRead l.text (AreMany IsSection) Sections Sections l.tokens l.rest l.sections.items

abbrev pub decreases-instances : goal.decreases-instances
decreases-instances l = length l.rest

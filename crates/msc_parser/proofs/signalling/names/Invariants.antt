use Rattle.std.proofs.Common.{length}
use Rattle.msc_parser.specs.declared.tree.Direction.{Direction}
use Rattle.msc_parser.specs.Forms.{AreListed, IsNamed}
use Rattle.msc_parser.specs.Places.{GrammarPlace, Parameters, AfterParameter}
use Rattle.msc_parser.specs.Reading.{DidRead}
use Rattle.msc_parser.proofs.signalling.names.Given as goal

abbrev pub invariant-names : goal.invariant-names
invariant-names l =
    (w : Direction) (p : GrammarPlace) → DidRead l.fn.text (AreListed IsNamed) (Parameters w p) (AfterParameter w p) l.fn.tokens l.rest l.names.items

abbrev pub decreases-names : goal.decreases-names
decreases-names l = length l.rest

use Rattle.std.proofs.Common.{length}
use Rattle.msc_parser.specs.Forms.{AreListed}
use Rattle.msc_parser.specs.Grammar.{IsDecl}
use Rattle.msc_parser.specs.Places.{InInst, DeclName, DeclEnd}
use Rattle.msc_parser.specs.Reading.{DidRead}
use Rattle.msc_parser.proofs.heading.inst.Given as goal

abbrev pub invariant-decls : goal.invariant-decls
invariant-decls l =
    DidRead l.fn.text (AreListed IsDecl) (DeclName InInst) (DeclEnd InInst) l.fn.tokens l.rest l.decls.items

abbrev pub decreases-decls : goal.decreases-decls
decreases-decls l = length l.rest

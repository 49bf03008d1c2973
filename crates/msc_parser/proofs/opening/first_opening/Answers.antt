use Rattle.msc_parser.proofs.opening.first_opening.Goals as goal

pub returns-then-stands-3-clause-some : goal.returns-then-stands-3-clause-some
returns-then-stands-3-clause-some c = c.stands-else-stands-2.ensures.0 c.if-stands-3.true

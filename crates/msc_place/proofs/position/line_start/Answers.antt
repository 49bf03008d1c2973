use Rattle.std.proofs.Common.{arith}
use Rattle.std.proofs.lemmas.Bool.Decides.{nat_tests}
use Rattle.msc_place.proofs.LineLemmas.{begins_last, begins_first}
use Rattle.msc_place.proofs.position.line_start.Goals as goal

pub returns-in-Some : goal.returns-in-Some
returns-in-Some c =
    let last = c.in-Some.ensures in
    begins_last c.args.before.now c.in-Some.end last.0.high (grind (arith, nat_tests, last.1)) last.0.after

pub returns-in-None : goal.returns-in-None
returns-in-None c = begins_first c.args.before.now c.in-None.ensures

use Rattle.std.proofs.Common.{refl}
use Rattle.msc_race.proofs.Listing.Verdicts.{verdict_told}
use Rattle.msc_race.proofs.laws.enforced_orders_tell_verdicts.Goals as goal

pub returns : goal.returns
returns c = λ queues d accepted order exact.
    let said = c.races_are_what_runs_reverse.ensures in
    verdict_told queues d accepted said.race said.none order exact _ refl

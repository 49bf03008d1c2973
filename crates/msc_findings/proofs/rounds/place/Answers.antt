use Rattle.std.proofs.Common.{length}
use Rattle.msc_chart.proofs.RoundEvents.{events_in}
use Rattle.msc_findings.proofs.rounds.place.Goals as goal

pub place-requires : goal.place-requires
place-requires c =
    let d = c.args.numbers.now in
    record { known = events_in 2 (length d.messages) d.events c.args.k c.requires }

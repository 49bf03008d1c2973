use Rattle.std.proofs.Common.{Bool, subst}
use Rattle.msc_race.specs.Shown.{IsShownRun}
use Rattle.msc_race.specs.Views.{wiring_of}
use Rattle.msc_race.proofs.Listing.Raced.{race_events}
use Rattle.msc_judge.proofs.rows.RaceRows.keep_short.Goals as goal

-- the run that shows the race is its short witness
pub returns-clause-line : goal.returns-clause-line
returns-clause-line g c runs are =
    let e = c.args.self.now.listing.now.judged in
    let race = c.args.race in
    let known = race_events e race.0 race.1 c.requires.race in
    c.in_ok-line.ensures (runs race) (subst (λ (b : Bool). IsShownRun b (wiring_of e) race.0 race.1 (runs race)) c.requires.short (are race known.0 known.1))

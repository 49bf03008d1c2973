use Rattle.std.proofs.Common.{◌≡◌, ℕ, List, Bool, sym, subst}
use Rattle.msc_chart.specs.Witness.{IsWitness}
use Rattle.msc_race.specs.Shown.{IsShownRun}
use Rattle.msc_race.specs.Views.{wiring_of}
use Rattle.msc_race.proofs.Listing.Raced.{race_events}
use Rattle.msc_judge.proofs.rows.RaceRows.keep_witness.Goals as goal

-- the line that is kept is that of the event
pub returns-then-e-race-clause-line : goal.returns-then-e-race-clause-line
returns-then-e-race-clause-line g c runs are =
    let e = c.args.self.now.listing.now.judged in
    let race = c.args.race in
    let known = race_events e race.0 race.1 c.requires.race in
    let witness = subst (λ (b : Bool). IsShownRun b (wiring_of e) race.0 race.1 (runs race)) c.requires.short (are race known.0 known.1) in
    let kept : (run : List ℕ) → IsWitness (wiring_of e) c.in-Some.e run → c.args.kept.now.line.items ≡ g.R.Renderer.run_text c.args.self.now.renderer.now e.chart run
    = rw c.in-Some.is at c.requires.kept in
    kept (runs race) (subst (λ (x : ℕ). IsWitness (wiring_of e) x (runs race)) (sym c.if-e-race.true) witness)

pub witness_line-requires-clause-known : goal.witness_line-requires-clause-known
witness_line-requires-clause-known g c =
    (race_events c.args.self.now.listing.now.judged c.args.race.0 c.args.race.1 c.requires.race).0

-- the run that shows the race is the chosen one
pub returns-clause-line : goal.returns-clause-line
returns-clause-line g c runs are =
    let e = c.args.self.now.listing.now.judged in
    let race = c.args.race in
    let known = race_events e race.0 race.1 c.requires.race in
    c.in_ok-line.ensures (runs race) (subst (λ (b : Bool). IsShownRun b (wiring_of e) race.0 race.1 (runs race)) c.requires.short (are race known.0 known.1))

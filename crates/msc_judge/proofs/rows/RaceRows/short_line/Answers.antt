use Rattle.std.proofs.Common.{ℕ, List, inl, inr, ap, ◌∙◌, subst}
use Rattle.std.proofs.lemmas.Result.{IfOk-weaker}
use Rattle.msc_chart.specs.Runs.{Run}
use Rattle.msc_race.specs.Reversals.{ComesFirst}
use Rattle.msc_race.specs.Short.{IsShortAnswer}
use Rattle.msc_race.specs.Views.{wiring_of}
use Rattle.msc_race.specs.Wired.{EnforcedChart}
use Rattle.msc_reason.proofs.Within.{before_apart}
use Rattle.msc_race.proofs.Listing.Raced.{race_events}
use Rattle.msc_judge.proofs.rows.RaceRows.short_line.Goals as goal

pub short_witness-requires-clause-e_known : goal.short_witness-requires-clause-e_known
short_witness-requires-clause-e_known g c =
    rw c.enforced.ensures (race_events c.args.self.now.listing.now.judged c.args.race.0 c.args.race.1 c.requires.race).0

pub short_witness-requires-clause-f_known : goal.short_witness-requires-clause-f_known
short_witness-requires-clause-f_known g c =
    rw c.enforced.ensures (race_events c.args.self.now.listing.now.judged c.args.race.0 c.args.race.1 c.requires.race).1

-- a short witness is a run
pub run_line-requires-clause-run : goal.run_line-requires-clause-run
run_line-requires-clause-run g c =
    let run = c.in-Some.run'.items in
    let answer : IsShortAnswer (wiring_of c.enforced.result.now) c.args.race.0 c.args.race.1 run = rw c.in-Some.is at c.in_ok-run.ensures in
    rw c.as_slice.ensures.value (subst (λ (x : EnforcedChart). Run (wiring_of x) run) c.enforced.ensures answer.shows.run)

-- two events have no other short witness
pub returns-in-Some : goal.returns-in-Some
returns-in-Some g c =
    let e = c.args.self.now.listing.now.judged in
    let run = c.in-Some.run'.items in
    let answer : IsShortAnswer (wiring_of c.enforced.result.now) c.args.race.0 c.args.race.1 run = rw c.in-Some.is at c.in_ok-run.ensures in
    let its = subst (λ (x : EnforcedChart). IsShortAnswer (wiring_of x) c.args.race.0 c.args.race.1 run) c.enforced.ensures answer in
    let text = λ (r : List ℕ). g.R.Renderer.run_text c.args.self.now.renderer.now e.chart r in
    IfOk-weaker c.run_line.result _ _
    (λ line made other is. made ∙ ap text (c.as_slice.ensures.value ∙ c.short_witnesses_show.ensures.unique e.queues e.chart c.args.race.0 c.args.race.1 _ _ its.short is))
    c.run_line.ensures

-- the first event of a race need not come first
pub returns-in-None : goal.returns-in-None
returns-in-None g c = λ run is.
    let e = c.args.self.now.listing.now.judged in
    let told : ComesFirst (wiring_of c.enforced.result.now) c.args.race.0 c.args.race.1 = rw c.in-None.is at c.in_ok-run.ensures in
    let first = subst (λ (x : EnforcedChart). ComesFirst (wiring_of x) c.args.race.0 c.args.race.1) c.enforced.ensures told in
    absurd (elim first [
      | inl same ↦ before_apart e.chart.events c.args.race.0 c.args.race.1 c.requires.race.0 same
      | inr after ↦ c.requires.race.1 after
    ])

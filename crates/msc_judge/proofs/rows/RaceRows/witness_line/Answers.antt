use Rattle.std.proofs.Common.{ℕ, List, ap, ◌∙◌, subst}
use Rattle.std.proofs.lemmas.Result.{IfOk-weaker}
use Rattle.msc_chart.specs.Witness.{IsWitness}
use Rattle.msc_race.specs.Views.{wiring_of}
use Rattle.msc_race.specs.Wired.{EnforcedChart}
use Rattle.msc_judge.proofs.rows.RaceRows.witness_line.Goals as goal

-- a witness is a run
pub run_line-requires-clause-run : goal.run_line-requires-clause-run
run_line-requires-clause-run g c =
    let e = c.args.self.now.listing.now.judged in
    let witness = subst (λ (x : EnforcedChart). IsWitness (wiring_of x) c.args.e c.in_ok-run.run'.items) c.enforced.ensures c.in_ok-run.ensures in
    rw c.as_slice.ensures.value (c.the_witness_reverses.ensures.whole e.queues e.chart c.args.e _ witness).0

-- an event has no other witness
pub returns : goal.returns
returns g c =
    let e = c.args.self.now.listing.now.judged in
    let witness = subst (λ (x : EnforcedChart). IsWitness (wiring_of x) c.args.e c.in_ok-run.run'.items) c.enforced.ensures c.in_ok-run.ensures in
    let text = λ (run : List ℕ). g.R.Renderer.run_text c.args.self.now.renderer.now e.chart run in
    IfOk-weaker c.run_line.result _ _
    (λ line made run is. made ∙ ap text (c.as_slice.ensures.value ∙ c.the_witness_reverses.ensures.unique e.queues e.chart c.args.e _ _ witness is))
    c.run_line.ensures

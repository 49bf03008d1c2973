use Rattle.std.proofs.Common.{List, ◌++◌, ℕ, sym, ap₂, ◌∙◌, arith}
use Rattle.msc_race.proofs.Listing.Raced.{no_races_below, races_below_all, races_below_more}
use Rattle.msc_scenario_marks.proofs.races.all_races.Goals as goal

pub loop-e-init : goal.loop-e-init
loop-e-init c = record {
  reached = c.new-walk.ensures c.args.enforced.now.chart.events;
  all = c.new-all.ensures.items ∙ sym (no_races_below c.args.enforced.now);
}

pub loop-e-preserved : goal.loop-e-preserved
loop-e-preserved c =
    let e = c.args.enforced.now in
    let k = c.loop-e.e in
    let list = c.as_slice.ensures.value ∙ c.in_ok-next_races.ensures.list in
    record {
      reached = c.in_ok-next_races.ensures.reached;
      all = c.in_ok-extend_from_slice.ensures.items ∙ ap₂ (λ (a b : List (ℕ × ℕ)). a ++ b) c.loop-e.invariant.all list ∙ sym (races_below_more e k);
    }

pub returns : goal.returns
returns c =
    let end = c.loop-e.auto.e-end in
    let past = c.loop-e-test.false in
    c.loop-e.invariant.all ∙ races_below_all c.args.enforced.now c.loop-e.e (omega (arith, end, past, c.events-e-end.ensures))

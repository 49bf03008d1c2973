use Rattle.std.proofs.Common.{inr, length}
use Rattle.msc_ready.specs.Held.{wiring_of, ready_in}
use Rattle.msc_ready.specs.Running.{IsBlockedPairNext}
use Rattle.msc_ready.proofs.Shared.{Steps-push}
use Rattle.msc_ready.proofs.Begun.Toward.{goes_on_same, goes_on_more, least_of_all, less_after, still_there}
use Rattle.msc_ready.proofs.beginning.Beginning.finish.Goals as goal

pub loop-x-init : goal.loop-x-init
loop-x-init c = record { held = c.requires; longer = goes_on_same c.args.self.now.run.items; witness = λ t there steps. steps }

pub loop-x-preserved : goal.loop-x-preserved
loop-x-preserved c =
    let r = c.args.ready.now in
    let old = c.args.self.now.run.items in
    let run = c.loop-x.self.run.items in
    let before = c.loop-x.invariant in
    record {
      held = c.in_ok-occur.ensures.held;
      longer = goes_on_more old run c.occur.new.self.run.items c.in-Some.x before.longer c.in_ok-occur.ensures.run;
      witness = λ t there steps.
          let next = inr (still_there old run t before.longer there, least_of_all (wiring_of r) (ready_in r) run c.in-Some.x c.in-Some.ensures) in
          rw c.in_ok-occur.ensures.run (Steps-push (IsBlockedPairNext (wiring_of r) (ready_in r) t) run c.in-Some.x (before.witness t there steps) next);
    }

pub loop-x-smaller : goal.loop-x-smaller
loop-x-smaller c =
    let may = c.in-Some.ensures.itself.1 in
    less_after (length c.args.ready.now.chart.events) c.loop-x.self.run.items c.occur.new.self.run.items c.in-Some.x may.may.event may.may.new c.in_ok-occur.ensures.run

pub returns : goal.returns
returns c = record {
  held = c.loop-x.invariant.held;
  longer = c.loop-x.invariant.longer;
  none = λ x may. c.in_default.ensures x (tt, may);
  witness = c.loop-x.invariant.witness;
}

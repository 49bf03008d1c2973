use Rattle.std.proofs.Common.{ℕ, Bool, List, [], length}
use Rattle.msc_chart.specs.Lists.{occurs, IsLeast, Steps}
use Rattle.msc_chart.specs.Orders.{WiredChart, IsWired}
use Rattle.msc_chart.specs.Runs.{IsWhole}
use Rattle.msc_ready.specs.Finishing.{MayComeInTurn, MayFinish}
use Rattle.msc_ready.specs.Held.{wiring_of, ready_in}
use Rattle.msc_ready.proofs.Shared.{Steps-map, Steps-push, by_test}
use Rattle.msc_ready.proofs.Runs.Counting.{whole_if_all, all_if_whole}
use Rattle.msc_ready.proofs.Runs.Keeping.{HaveOneLine, run_of_ready}
use Rattle.msc_ready.proofs.Runs.Whole.{no_ring, turn_on}
use Rattle.msc_ready.proofs.Begun.Toward.{less_after}
use Rattle.msc_ready.proofs.ready.Ready.finishing_run.Goals as goal

-- the least that may come in turn may come in turn
in_turn_of : (chart : WiredChart) (ready : ℕ → Bool) (run : List ℕ)
    → Steps (λ (past : List ℕ). IsLeast (MayComeInTurn chart ready past)) [] run → Steps (MayComeInTurn chart ready) [] run
in_turn_of chart ready run steps =
    Steps-map (λ (past : List ℕ). IsLeast (MayComeInTurn chart ready past)) (MayComeInTurn chart ready) (λ past x least. least.itself) [] run steps

pub loop-x-init : goal.loop-x-init
loop-x-init c = record { held = c.in_ok-beginning.ensures.held; least = rw c.in_ok-beginning.ensures.none tt }

pub loop-x-preserved : goal.loop-x-preserved
loop-x-preserved c =
    let r = c.args.self.now in
    record {
      held = c.in_ok-occur.ensures.held;
      least = rw c.in_ok-occur.ensures.run (Steps-push (λ (past : List ℕ). IsLeast (MayComeInTurn (wiring_of r) (ready_in r) past))
          c.loop-x.beginning.run.items c.in-Some.x c.loop-x.invariant.least c.in-Some.ensures);
    }

pub loop-x-smaller : goal.loop-x-smaller
loop-x-smaller c =
    let may = c.in-Some.ensures.itself.may.may in
    less_after (length c.args.self.now.chart.events) c.loop-x.beginning.run.items c.occur.new.self.run.items c.in-Some.x may.event may.new c.in_ok-occur.ensures.run

pub occur-requires-clause-next : goal.occur-requires-clause-next
occur-requires-clause-next c = c.in-Some.ensures.itself.may

-- where no event may come in turn, the run is whole if any is
whole_if_any : (chart : WiredChart) → IsWired chart → HaveOneLine chart → (ready : ℕ → Bool) (run : List ℕ)
    → Steps (MayComeInTurn chart ready) [] run → ((x : ℕ) → MayComeInTurn chart ready run x → ⊥) → MayFinish chart ready → IsWhole chart run
whole_if_any chart is_wired lines ready run turns none some = λ e below.
    by_test (occurs run e) (λ there. there)
    (λ out.
    let next = turn_on chart is_wired lines ready (no_ring chart is_wired lines ready some) run turns e below out in
    absurd (none next.0 next.1))

pub returns : goal.returns
returns c =
    let r = c.args.self.now in
    let chart = wiring_of r in
    let accepted = c.facts.ensures.chart in
    let is_wired = c.ends_share_queues.ensures r.queues r.chart accepted in
    let lines : HaveOneLine chart = λ x y ix iy. c.inputs_share_lines.ensures r.queues r.chart x y accepted ix iy in
    let run = c.loop-x.beginning.run.items in
    let turns = in_turn_of chart (ready_in r) run c.loop-x.invariant.least in
    let is_ready = c.loop-x.invariant.held.is_run in
    let is_run = run_of_ready chart (ready_in r) [] run is_ready in
    record {
      run = record { least = c.loop-x.invariant.least; none = c.in_default.ensures };
      ready = is_ready;
      all = (whole_if_all chart run is_run, all_if_whole chart run is_run);
      whole = (
        λ all. (run, (is_ready, all)),
        whole_if_any chart is_wired lines (ready_in r) run turns c.in_default.ensures,
      );
    }

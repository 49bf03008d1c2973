use Rattle.std.proofs.Common.{ℕ, List, [], ◌∷◌, refl, sym, subst}
use Rattle.msc_race.specs.Views.{wiring_of}
use Rattle.msc_order.specs.Tables.{orders}
use Rattle.msc_race.proofs.Runs.EnforcedPairs.{enforced_below}
use Rattle.msc_reason.specs.Chains.{LeadsTo}
use Rattle.msc_reason.specs.Rules.{LeadsByRule}
use Rattle.msc_reason.proofs.ChainLemmas.{leads_on, rule_on, step_enforced}
use Rattle.msc_reason.proofs.Walking.{fewer_after}
use Rattle.msc_reason.proofs.chaining.walk.Goals as goal

pub loop-at-smaller : goal.loop-at-smaller
loop-at-smaller c =
    let chart = wiring_of c.args.enforced.now in
    let is_wired = c.ends_share_queues.ensures c.args.enforced.now.queues c.args.enforced.now.chart c.facts.ensures.chart in
    let step = step_enforced chart c.loop-at.at c.next_step-at.result c.next_step-at.ensures.step in
    let known = enforced_below chart is_wired c.loop-at.at c.next_step-at.result step in
    fewer_after chart (c.the_enforced_order_has_no_cycle.ensures c.args.enforced.now.queues c.args.enforced.now.chart c.facts.ensures.chart)
    (orders c.args.enforced.now.order) c.facts.ensures.order.enforced c.loop-at.at c.next_step-at.result known.0 known.1 step

pub loop-at-preserved : goal.loop-at-preserved
loop-at-preserved c =
    let events = c.args.enforced.now.chart.events in
    let next : ℕ = c.next_step-at.result in
    record {
      chain = subst (λ (l : List ℕ). LeadsTo events c.args.x l next) (sym c.in_ok-push.ensures.items)
          (leads_on events c.args.x c.loop-at.steps.items c.loop-at.at (next ∷ []) next c.loop-at.invariant.chain (c.next_step-at.ensures.step, refl));
      chosen = subst (λ (l : List ℕ). LeadsByRule (wiring_of c.args.enforced.now) c.args.y c.args.x l next) (sym c.in_ok-push.ensures.items)
          (rule_on (wiring_of c.args.enforced.now) c.args.y c.args.x c.loop-at.steps.items c.loop-at.at next c.loop-at.invariant.chosen c.next_step-at.ensures.chosen);
      onward = c.next_step-at.ensures.onward;
    }

pub returns : goal.returns
returns c = rw c.from_vec.ensures (
  subst (λ (z : ℕ). LeadsTo c.args.enforced.now.chart.events c.args.x c.loop-at.steps.items z) c.loop-at-test.false
      c.loop-at.invariant.chain,
  subst (λ (z : ℕ). LeadsByRule (wiring_of c.args.enforced.now) c.args.y c.args.x c.loop-at.steps.items z)
      c.loop-at-test.false c.loop-at.invariant.chosen,
)

use Rattle.std.proofs.Common.{◌∙◌, sym, subst, map, arith}
use Rattle.std.proofs.lemmas.List.{with_items_is}
use Rattle.msc_execution.specs.Roles.{IsWiring}
use Rattle.msc_instance.specs.Views.{ends_of}
use Rattle.msc_instance.proofs.Wired.{none_wired, all_wired, all_fit}
use Rattle.msc_instance.proofs.wiring.wire.Goals as goal

pub wire_each-requires-clause-none : goal.wire_each-requires-clause-none
wire_each-requires-clause-none c =
    rw c.as_mut_slice-3.ensures.value
    (none_wired c.wiring_grows.ensures c.args.queues c.args.chart.now c.in_ok-all.all.items
    (c.in_ok-all.ensures.many ∙ c.instances-instances.ensures.number) c.in_ok-all.ensures.under
    c.in_ok-all.ensures.none)

pub returns-clause-wiring : goal.returns-clause-wiring
returns-clause-wiring c =
    let back = with_items_is c.in_ok-all.all c.wire_each.new.all (omega arith) in
    subst (λ l. IsWiring c.args.queues c.args.chart.now (map ends_of l)) (sym back)
    (all_wired c.wiring_grows.ensures c.args.queues c.args.chart.now c.wire_each.new.all
    c.in_ok-wire_each.ensures)

pub returns-clause-fit : goal.returns-clause-fit
returns-clause-fit c i e at =
    all_fit c.wirings_fit.ensures c.args.queues c.args.chart.now _ (returns-clause-wiring c) i e at

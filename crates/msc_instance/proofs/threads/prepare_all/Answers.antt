use Rattle.std.proofs.Common.{◌≡◌, List, ◌++◌, ◌∷◌, [], length, arith, ◌∙◌, sym, ap, subst, refl, map}
use Rattle.std.proofs.lemmas.List.{length-append}
use Rattle.std.specs.Prelude.{All}
use Rattle.msc_execution.specs.Roles.{IsWiring}
use Rattle.msc_instance.specs.Views.{ends_of}
use Rattle.msc_instance.specs.declared.ends.InstanceEnds.{InstanceEnds}
use Rattle.msc_instance.proofs.Prepared.{none_prepared, prepared_more, all_prepared, next_is, next_known, next_fits, prepared_many, yielded_more, yielded_all}
use Rattle.msc_instance.proofs.threads.prepare_all.Goals as goal

pub loop-ends-init : goal.loop-ends-init
loop-ends-init c = record {
  number = refl;
  whole = refl;
  prepared = none_prepared _ _ c.in_ok-jobs.ensures.items;
  room = omega (arith, c.into_iter-ends-iterator.ensures.into_iter_gives.1, c.in_ok-jobs.ensures.capacity, ap length c.into_iter-ends-iterator.ensures.into_iter_gives.0);
}

pub prepare-requires-clause-known : goal.prepare-requires-clause-known
prepare-requires-clause-known c =
    let i = c.loop-ends.invariant in
    let is = next_is _ _ _ _ _ _ c.into_iter-ends-iterator.ensures.into_iter_gives.0 i.whole c.in-Some.ensures.steps.0 in
    rw i.number (next_known c.args.queues c.args.chart.now c.in_ok-all.all.items c.loop-ends.yielded _ c.in-Some.ends is c.in_ok-all.ensures.wiring.many)

pub prepare-requires-clause-fit : goal.prepare-requires-clause-fit
prepare-requires-clause-fit c =
    let i = c.loop-ends.invariant in
    let is = next_is _ _ _ _ _ _ c.into_iter-ends-iterator.ensures.into_iter_gives.0 i.whole c.in-Some.ensures.steps.0 in
    rw i.number (next_fits c.args.queues c.args.chart.now c.in_ok-all.all.items c.loop-ends.yielded _ c.in-Some.ends is
    c.in_ok-all.ensures.architecture c.in_ok-all.ensures.fit)

pub push_reserved-requires : goal.push_reserved-requires
push_reserved-requires c =
    let i = c.loop-ends.invariant in
    let whole = ap length (i.whole ∙ ap (λ l. c.loop-ends.yielded ++ l) c.in-Some.ensures.steps.0) in
    let many = prepared_many _ _ _ i.prepared in
    omega (arith, whole, many, i.room, length-append c.loop-ends.yielded (c.in-Some.ends ∷ c.next.new.self.rest.items))

pub overflow_add-number : goal.overflow_add-number
overflow_add-number c =
    let i = c.loop-ends.invariant in
    let is = next_is _ _ _ _ _ _ c.into_iter-ends-iterator.ensures.into_iter_gives.0 i.whole c.in-Some.ensures.steps.0 in
    let known = next_known c.args.queues c.args.chart.now c.in_ok-all.all.items c.loop-ends.yielded _ c.in-Some.ends is c.in_ok-all.ensures.wiring.many in
    omega (arith, known, i.number, c.facts.ensures.few_instances)

pub loop-ends-preserved : goal.loop-ends-preserved
loop-ends-preserved c =
    let i = c.loop-ends.invariant in
    record {
      number = omega (arith, i.number, length-append c.loop-ends.yielded (c.in-Some.ends ∷ []));
      whole = yielded_more _ _ _ _ _ i.whole c.in-Some.ensures.steps.0;
      prepared = prepared_more _ _ _ i.prepared c.in_ok-prepare.field-0 c.in-Some.ends _ c.push_reserved.ensures.items
          c.in_ok-prepare.ensures.ends (c.in_ok-prepare.ensures.number ∙ i.number) c.in_ok-prepare.ensures.ready;
      room = omega (arith, i.room, c.push_reserved.ensures.capacity);
    }

pub returns : goal.returns
returns c =
    let i = c.loop-ends.invariant in
    let is = sym (yielded_all _ _ _ _ c.into_iter-ends-iterator.ensures.into_iter_gives.0 i.whole (omega (arith, c.in-None.ensures.steps.0))) in
    all_prepared c.args.chart.now c.loop-ends.yielded c.loop-ends.jobs.items i.prepared c.args.queues
    (subst (λ (l : List InstanceEnds). IsWiring c.args.queues c.args.chart.now (map ends_of l)) is c.in_ok-all.ensures.wiring)
    (subst (λ (l : List InstanceEnds). All (λ e. e.queues ≡ c.args.queues) l) is c.in_ok-all.ensures.architecture)

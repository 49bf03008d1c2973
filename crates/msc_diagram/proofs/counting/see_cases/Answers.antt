use Rattle.std.proofs.Common.{◌≡◌, ◌<◌, arith, ℕ, List, [], ◌∷◌, ◌++◌, get_or, length, Some, not, false, refl, sym, ap, ap₂, subst, ◌∙◌}
use Rattle.std.proofs.lemmas.Option.{get_or_from_slice_get}
use Rattle.std.specs.List.{filter}
use Rattle.msc_reason.proofs.Filtered.{filter_all}
use Rattle.msc_diagram.proofs.Growing.{idle_more, known_more, places_more}
use Rattle.msc_diagram.proofs.Tallying.{counted_more}
use Rattle.msc_diagram.specs.Places.{above_with}
use Rattle.msc_diagram.specs.Scenarios.{all_of, asked_of, counting_of, named_of, Case}
use Rattle.msc_diagram.specs.Stale.{uses}
use Rattle.msc_diagram.specs.declared.place.EventPlace.{EventPlace}
use Rattle.msc_diagram.specs.declared.scenario.Scenario.{Scenario}
use Rattle.msc_diagram.proofs.counting.see_cases.Goals as goal

pub loop-i-preserved : goal.loop-i-preserved
loop-i-preserved g c =
    let q = c.args.check in
    let old = c.args.answer.now in
    let i = c.loop-i.i in
    let so_far = c.loop-i.invariant in
    let scenarios = g.S.Source.scenarios c.args.scenarios.now in
    let scenario = c.get.result.now in
    let one = c.in_ok-see_case.ensures in
    let k = one.known in
    let within : i < length scenarios = subst (λ n. i < n) c.len-i-end.ensures c.loop-i-test.true in
    let its : scenario ≡ get_or scenarios i scenario = sym (get_or_from_slice_get scenarios i scenario scenario (c.in_ok-scenario.ensures ∙ ap Some (sym c.get.ensures))) in
    let joins : (Case → List (ℕ × ℕ)) → List (EventPlace × EventPlace) → Scenario → List (EventPlace × EventPlace) = λ pairs l x. above_with x l (pairs k) in
    record {
      cases = so_far.cases ++ k ∷ [];
      are = known_more q scenarios i so_far.cases k scenario so_far.are one.is within (one.scenario ∙ its);
      all = one.all ∙ ap₂ (joins (all_of q)) so_far.all (sym one.scenario) ∙ sym (places_more (all_of q) old.all so_far.cases k);
      named = λ on. one.named on ∙ ap₂ (joins (named_of q)) (so_far.named on) (sym one.scenario) ∙ sym (places_more (named_of q) old.named so_far.cases k);
      counting = λ on. one.counting on ∙ ap₂ (joins (counting_of q)) (so_far.counting on) (sym one.scenario) ∙ sym (places_more (counting_of q) old.counting so_far.cases k);
      listed = one.listed ∙ ap₂ (joins (asked_of q)) so_far.listed (sym one.scenario) ∙ sym (places_more (asked_of q) old.listed so_far.cases k);
      tally = λ on p.
          let here = one.tally on p in let before = so_far.tally on p in let more = counted_more q so_far.cases k p in
          omega (arith, here, before, more);
      idle = one.idle ∙ ap (filter (λ n. not (uses q k n))) so_far.idle ∙ idle_more q so_far.cases k old.idle.items;
    }

pub loop-i-init : goal.loop-i-init
loop-i-init g c =
    let q = c.args.check in
    let old = c.args.answer.now in
    record {
      cases = [];
      are = record { each = refl; all = λ k d within. absurd (omega (arith, within)) };
      all = refl;
      named = λ on. refl;
      counting = λ on. refl;
      listed = refl;
      tally = λ on p. omega arith;
      idle = sym (filter_all (λ (n : ℕ). not false) old.idle.items (λ n. refl));
    }

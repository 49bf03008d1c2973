use Rattle.std.proofs.Common.{◌≡◌, ◌<◌, arith, ℕ, List, [], ◌∷◌, ◌++◌, get_or, length, take, Some, refl, sym, ap, ap₂, subst, ◌∙◌}
use Rattle.std.proofs.lemmas.List.{length-map, take_all}
use Rattle.std.proofs.lemmas.Option.{get_or_from_slice_get}
use Rattle.msc_diagram.proofs.Growing.{known_more, places_more}
use Rattle.msc_diagram.proofs.NewLists.{lists_long, lists_more}
use Rattle.msc_diagram.specs.Places.{above_with}
use Rattle.msc_diagram.specs.Scenarios.{asked_of, new_in, AreCases}
use Rattle.msc_diagram.specs.declared.place.EventPlace.{EventPlace}
use Rattle.msc_diagram.specs.declared.scenario.Scenario.{Scenario}
use Rattle.msc_diagram.proofs.first_listed.new_races.Goals as goal

pub loop-i-init : goal.loop-i-init
loop-i-init g c = record {
  cases = [];
  are = record { each = refl; all = λ k d within. absurd (omega (arith, within)) };
  lists_are = c.new-lists.ensures.items;
  above_is = c.new-reported.ensures;
}

pub loop-i-preserved : goal.loop-i-preserved
loop-i-preserved g c =
    let q = c.args.check in
    let i = c.loop-i.i in
    let so_far = c.loop-i.invariant in
    let scenarios = g.S.Source.scenarios c.args.scenarios.now in
    let scenario = c.get.result.now in
    let one = c.in_ok-new.ensures in
    let k = one.known in
    let within : i < length scenarios = subst (λ n. i < n) c.len-i-end.ensures c.loop-i-test.true in
    let its : scenario ≡ get_or scenarios i scenario = sym (get_or_from_slice_get scenarios i scenario scenario (c.in_ok-scenario.ensures ∙ ap Some (sym c.get.ensures))) in
    let new : List (ℕ × ℕ) = new_in q c.loop-i.reported k in
    record {
      cases = so_far.cases ++ k ∷ [];
      are = known_more q scenarios i so_far.cases k scenario so_far.are one.is within (one.scenario ∙ its);
      lists_are = c.in_ok-push.ensures.items ∙ ap₂ (λ (l : List (List (ℕ × ℕ))) (x : List (ℕ × ℕ)). l ++ x ∷ []) so_far.lists_are (c.from_vec.ensures ∙ one.new_is ∙ ap (λ (l : List (EventPlace × EventPlace)). new_in q l k) so_far.above_is)
          ∙ sym (lists_more q [] so_far.cases k);
      above_is = one.with_them_is ∙ ap₂ (λ (l : List (EventPlace × EventPlace)) (x : Scenario). above_with x l (asked_of q k)) so_far.above_is (sym one.scenario)
          ∙ sym (places_more (asked_of q) [] so_far.cases k);
    }

pub returns : goal.returns
returns g c =
    let q = c.args.check in
    let so_far = c.loop-i.invariant in
    let scenarios = g.S.Source.scenarios c.args.scenarios.now in
    let past = c.loop-i-test.false in
    let reached = c.loop-i.auto.i-end in
    let end : c.loop-i.i ≡ length scenarios = omega (arith, past, reached, c.len-i-end.ensures) in
    let all : take c.loop-i.i scenarios ≡ scenarios = take_all c.loop-i.i scenarios (omega (arith, end)) in
    let are = subst (λ (l : List Scenario). AreCases q l so_far.cases) all so_far.are in
    record {
      cases = so_far.cases;
      are = are;
      lists_are = so_far.lists_are;
      each = ap length so_far.lists_are ∙ lists_long q [] so_far.cases
          ∙ sym (length-map so_far.cases (λ x. x.scenario)) ∙ ap length are.each;
    }

use Rattle.std.proofs.Common.{◌≡◌, ◌≤◌, ℕ, inl, inr, Some, slice_get, get_or, subst, arith}
use Rattle.std.specs.List.{All}
use Rattle.std.proofs.lemmas.List.{take_all}
use Rattle.std.proofs.lemmas.List.Elements.{All-more}
use Rattle.std.proofs.lemmas.Bool.{cases_lt}
use Rattle.std.proofs.lemmas.Option.{slice_get-get_or}
use Rattle.msc_reason.proofs.marks.least_second.Goals as goal

pub loop-race-preserved : goal.loop-race-preserved
loop-race-preserved c =
    let i : ℕ = c.loop-race.race-index in
    let races = c.args.races.now in
    let here = get_or races i (0, 0) in
    let is = c.min-least.ensures in
    record {
      none_below = All-more (λ p. c.min-least.result ≤ p.1) races i (0, 0) c.loop-race-test.true
          (λ k d inside. let before = c.loop-race.invariant.none_below k d inside in omega (arith, before, is)) (omega (arith, is));
      itself = elim (cases_lt here.1 c.loop-race.least) [
        | inl less ↦
            let same : here.1 ≡ c.min-least.result = omega (arith, is, less) in
            inr (here.0, (i, subst (λ (y : ℕ). slice_get races i ≡ Some (here.0, y)) same (slice_get-get_or races i (0, 0) c.loop-race-test.true)))
        | inr more ↦
            let same : c.min-least.result ≡ c.loop-race.least = omega (arith, is, more) in
            rw same c.loop-race.invariant.itself
      ];
    }

pub returns-clause-none_below : goal.returns-clause-none_below
returns-clause-none_below c =
    subst (All (λ p. c.loop-race.least ≤ p.1)) (take_all c.loop-race.race-index c.args.races.now (omega (arith, c.loop-race-test.false))) c.loop-race.invariant.none_below

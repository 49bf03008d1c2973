use Rattle.std.proofs.Common.{◌≡◌, ◌<◌, ◌++◌, [], ◌∷◌, false, true, not, get_or, length, Some, refl, sym, ap, subst, ◌∙◌, arith}
use Rattle.std.specs.List.{filter}
use Rattle.std.proofs.lemmas.Option.{get_or_from_slice_get}
use Rattle.std.proofs.lemmas.List.Elements.{All-append}
use Rattle.msc_reason.proofs.Filtered.{filter_all}
use Rattle.msc_diagram.proofs.Growing.{All-one, idle_more, known_more}
use Rattle.msc_diagram.specs.Judging.{none_counts_in}
use Rattle.msc_diagram.specs.Scenarios.{Case}
use Rattle.msc_diagram.specs.Stale.{told_marks, uses}
use Rattle.msc_diagram.proofs.passing.scenarios_pass.Goals as goal

pub loop-i-init : goal.loop-i-init
loop-i-init g c =
    let told = told_marks c.args.check.marks in (
      [],
      record {
        are = record { each = refl; all = λ k d within. absurd (omega (arith, within)) };
        none = λ k d within. absurd (omega (arith, within));
      },
      c.in_ok-idle.ensures ∙ sym (filter_all (λ n. not false) told (λ n. refl)),
    )

pub loop-i-preserved : goal.loop-i-preserved
loop-i-preserved g c =
    let q = c.args.check in
    let i = c.loop-i.i in
    let so_far = c.loop-i.invariant in
    let scenarios = g.S.Source.scenarios c.args.scenarios.now in
    let scenario = c.get.result.now in
    let one = c.in_ok-scenario_passes.ensures in
    let within : i < length scenarios = subst (λ n. i < n) c.len-i-end.ensures c.loop-i-test.true in
    let its : scenario ≡ get_or scenarios i scenario = sym (get_or_from_slice_get scenarios i scenario scenario (c.in_ok-scenario.ensures ∙ ap Some (sym c.get.ensures))) in
    let none : Case → Type 0 = λ x. none_counts_in q x ≡ true in (
      so_far.0 ++ one.0 ∷ [],
      record {
        are = known_more q scenarios i so_far.0 one.0 scenario so_far.1.are one.2 within (one.1 ∙ its);
        none = All-append none so_far.0 (one.0 ∷ []) so_far.1.none (All-one none one.0 (sym one.3 ∙ c.if-not-branch.false));
      },
      one.4 ∙ ap (filter (λ n. not (uses q one.0 n))) so_far.2 ∙ idle_more q so_far.0 one.0 (told_marks q.marks),
    )

use Rattle.std.proofs.Common.{true, refl, ap, ◌∙◌, subst}
use Rattle.msc_diagram.specs.Checks.{with_options}
use Rattle.msc_diagram.specs.Counts.{counts_of}
use Rattle.msc_diagram.specs.Telling.{IsAnswerOf}
use Rattle.msc_diagram.specs.declared.check.ScenarioCheck.{ScenarioCheck}
use Rattle.msc_diagram.proofs.judging.write_full.Goals as goal

pub write_found-requires-clause-counted : goal.write_found-requires-clause-counted
write_found-requires-clause-counted g c =
    let is = c.with_options-asked.ensures ∙ ap (with_options c.args.check) c.for_people.ensures in
    let known = subst (λ (k : ScenarioCheck). IsAnswerOf (g.S.Source.scenarios c.args.scenarios.now) k true c.in_ok-answer.answer) is c.in_ok-answer.ensures in
    (known.cases, known.are, known.counted refl)

pub write_found-requires-clause-counts : goal.write_found-requires-clause-counts
write_found-requires-clause-counts g c =
    let answer = c.in_ok-answer.answer in
    let is = c.with_options-asked.ensures ∙ ap (with_options c.args.check) c.for_people.ensures in
    let known = subst (λ (k : ScenarioCheck). IsAnswerOf (g.S.Source.scenarios c.args.scenarios.now) k true answer) is c.in_ok-answer.ensures in (
      known.cases,
      known.are,
      c.counts-counts.ensures ∙ ap (λ (k : ScenarioCheck). counts_of k answer.all answer.named answer.counting answer.listed) is ∙ known.counts,
      c.as_slice-stale.ensures.value ∙ known.stale,
    )

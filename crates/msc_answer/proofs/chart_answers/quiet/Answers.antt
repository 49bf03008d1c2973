use Rattle.std.proofs.Common.{Bool, is_some, option_map, refl, rules, subst}
use Rattle.msc_chart.specs.Drawings.{Drawing}
use Rattle.msc_text.specs.Judging.{Passes}
use Rattle.msc_answer.proofs.Answered.{has_room, passes_alike, rounds_given}
use Rattle.msc_answer.specs.Marked.{AreMarked}
use Rattle.msc_answer.specs.Rounds.{AreRounds}
use Rattle.msc_answer.proofs.chart_answers.quiet.Goals as goal

pub returns : goal.returns
returns c =
    let x = c.args.quieting in
    let s = c.args.source.now in
    let marks = option_map (λ m. m.now) c.as_ref.result in
    let are : AreMarked x.accept s.text (option_map (λ m. m.now) c.as_ref.result) = search rules in
    let rounds : AreRounds x.again s.chart (option_map (λ u. u.now) c.as_ref-2.result) = search rules in
    let passes = passes_alike x.allowed c.in_ok-passes.passes _ c.chart-chart.result _ x.queues _ c.as_ref.result _ c.as_ref-2.result
    c.of-input.ensures.chart c.of-input.ensures.queues c.of-input.ensures.marks c.of-input.ensures.rounds c.in_ok-passes.ensures in (
      marks,
      are,
      has_room x.again s.chart c.as_ref-2.result rounds,
      c.in_ok-passes.passes,
      c.ended_by.ensures,
      subst (λ (b : Bool). Passes s.chart x.queues x.allowed marks b c.in_ok-passes.passes) (rounds_given x.again s.chart c.as_ref-2.result rounds)
          (subst (λ (d : Drawing). Passes d x.queues x.allowed marks (is_some c.as_ref-2.result) c.in_ok-passes.passes) c.chart-chart.ensures passes),
      refl,
    )

use Rattle.std.proofs.Common.{length, sym, ap, ◌∙◌, subst, arith}
use Rattle.msc_chart.specs.Charts.{IsInTextOrder, IsSegmentEnd}
use Rattle.msc_chart.specs.Drawings.{Drawing}
use Rattle.msc_race.specs.Wired.{EnforcedChart}
use Rattle.msc_judge.proofs.BetweenLemmas.{none_behind, none_of_second, two_many}
use Rattle.msc_judge.proofs.rounds.Rounds.next_pairs.Goals as goal

pub place-requires : goal.place-requires
place-requires c =
    let many = two_many c.args.self.numbers.now c.args.self.listing.now.judged.chart c.args.self.two in
    record { known = omega (arith, many, c.requires.known) }

pub returns-then-place-ne0-clause-list : goal.returns-then-place-ne0-clause-list
returns-then-place-ne0-clause-list c =
    let s = c.args.self.listing.now in
    let other = c.if-place-ne0.true in
    let round = c.place.ensures.round in
    c.clear.ensures.items ∙ sym (none_of_second c.args.self.numbers.now s.judged s.allowed c.args.x (λ first. omega (arith, other, round, first)))

pub returns-then-start-events-clause-list : goal.returns-then-start-events-clause-list
returns-then-start-events-clause-list c =
    let s = c.args.self.listing.now in
    let chart = c.chart-chart.ensures ∙ ap (λ (e : EnforcedChart). e.chart) c.enforced.ensures in
    let text = subst (λ (d : Drawing). IsInTextOrder d.events) chart c.facts.ensures.in_text_order in
    let start = subst (λ (d : Drawing). IsSegmentEnd d.events c.args.x c.segment_end-start.result) chart c.segment_end-start.ensures in
    let many = c.events.ensures.number ∙ ap (λ (d : Drawing). length d.events) chart in
    let past = c.if-start-events.true in
    c.clear.ensures.items ∙ sym (none_behind c.args.self.numbers.now s.judged s.allowed text c.args.x c.segment_end-start.result start (omega (arith, many, past)))

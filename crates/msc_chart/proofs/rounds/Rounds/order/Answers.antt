use Rattle.std.proofs.Common.{ℕ, List, ◌++◌, map, ap, sym, subst, ◌∙◌}
use Rattle.msc_chart.specs.Charts.{IsLinearOrder}
use Rattle.msc_chart.specs.Rounds.{number_of, two_rounds}
use Rattle.msc_chart.proofs.RoundOrder.{two_rounds_linear}
use Rattle.msc_chart.proofs.rounds.Rounds.order.Goals as goal

pub returns : goal.returns
returns c =
    let d = c.args.self.now.chart.now in
    let order = c.linear_order-events.result.now in
    let second = map (λ (e : ℕ). number_of 2 d.events e 1) order in
    let made = c.in_ok-push_round-2.ensures ∙ ap (λ (l : List ℕ). l ++ second) (c.in_ok-push_round.ensures ∙ ap (λ (l : List ℕ). l ++ map (λ (e : ℕ). number_of 2 d.events e 0) order) c.new-order.ensures.items) in
    subst (λ (l : List ℕ). IsLinearOrder (two_rounds d).events l) (sym made)
    (two_rounds_linear d c.facts.ensures order c.linear_order-events.ensures)

use Rattle.std.proofs.Common.{ℕ, ◌++◌, List, length, sym, ap, ◌∙◌, arith}
use Rattle.msc_chart.specs.Lists.{pairs_to}
use Rattle.msc_race.specs.Races.{is_raced}
use Rattle.msc_race.proofs.Listing.Pairs.{below_all, below_more, below_none}
use Rattle.msc_race.proofs.racing.races.Goals as goal

pub loop-e-init : goal.loop-e-init
loop-e-init c = record {
  list = c.new-list.ensures.items ∙ sym (below_none (is_raced c.args.chart.now.events c.args.order.now) (length c.args.chart.now.events));
  reached = c.new-walk.ensures c.args.chart.now.events;
}

pub loop-e-preserved : goal.loop-e-preserved
loop-e-preserved c =
    let raced = is_raced c.args.chart.now.events c.args.order.now in
    let n : ℕ = length c.args.chart.now.events in
    record {
      list = c.in_ok-push_races.ensures.races ∙ ap (λ (l : List (ℕ × ℕ)). l ++ pairs_to raced c.loop-e.e n) c.loop-e.invariant.list
          ∙ sym (below_more raced n c.loop-e.e);
      reached = c.in_ok-push_races.ensures.reached;
    }

pub returns : goal.returns
returns c =
    let n : ℕ = length c.args.chart.now.events in
    let last = c.loop-e-test.false in
    let count = c.events-e-end.ensures.number in
    c.loop-e.invariant.list ∙ below_all (is_raced c.args.chart.now.events c.args.order.now) n c.loop-e.e (omega arith)

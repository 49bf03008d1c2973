use Rattle.std.proofs.Common.{arith}
use Rattle.msc_chart.proofs.SortingLemmas.{nothing_put}
use Rattle.msc_chart.proofs.linear.begun.Goals as goal

pub returns : goal.returns
returns c = (
  nothing_put c.args.lines c.args.events.now c.requires _ c.new.ensures.items _ (c.in_ok-vec.ensures.items_if_clones_equal (λ y h. h)) _ (c.in_ok-vec-2.ensures.items_if_clones_equal (λ y h. h)),
  omega (arith, c.in_ok-vec-2.ensures.len, c.in_ok-vec-3.ensures.len),
)

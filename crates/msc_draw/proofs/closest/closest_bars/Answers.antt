use Rattle.std.proofs.Common.{sym, ap, subst, ◌∙◌}
use Rattle.msc_picture.specs.Bars.{bars_of}
use Rattle.msc_race.specs.Views.{wiring_of}
use Rattle.msc_reason.specs.Closest.{IsClosestList}
use Rattle.msc_reason.specs.LeftOut.{leaves_none}
use Rattle.msc_reason.specs.LeftOut.{leaves_none}
use Rattle.msc_reason.specs.Marked.{cause_in}
use Rattle.msc_reason.specs.Selected.{Selected}
use Rattle.msc_draw.specs.Listed.{listed_of}
use Rattle.msc_draw.proofs.closest.closest_bars.Goals as goal

pub returns : goal.returns
returns c =
    let e = c.args.enforced in
    let are = c.what_counts_is_listed.ensures.causes e c.facts.ensures.order c.facts.ensures.chart in
    let all = c.every_race_that_counts_spans_a_closest_one.ensures.list e c.facts.ensures.order
    c.facts.ensures.chart _ (cause_in e) are (ap leaves_none c.of_kinds.ensures) in
    let listing = c.in_ok-listing.listing in
    record {
      closest = listed_of listing;
      are = subst (λ (s : Selected). IsClosestList (wiring_of e) (listed_of s))
          (sym c.in_ok-listing.ensures) all;
      bars = c.in_ok-bars.ensures.bars
          ∙ ap (λ (s : Selected). bars_of s.judged.chart.events (listed_of listing)) c.in_ok-listing.ensures;
      told = c.in_ok-bars.ensures.told;
    }

use Rattle.std.specs.List.{flat_map, range_with_len}
use Rattle.msc_draw.specs.Listed.{listed_at}
use Rattle.msc_html.specs.Progress.{HasTold}
use Rattle.msc_race.specs.Walks.{HasReached}
use Rattle.msc_html.proofs.races.put_articles.Given as goal

-- the walk is so far, and the races of the events so far are told
abbrev pub invariant-loop-e : goal.invariant-loop-e
invariant-loop-e l = record {
  reached : HasReached l.listing.judged.chart.events l.e l.stream.walk;
  held : HasTold l.source l.fn.page.items l.page.items
      (flat_map (listed_at l.listing) (range_with_len 0 l.e)) l.progress;
}

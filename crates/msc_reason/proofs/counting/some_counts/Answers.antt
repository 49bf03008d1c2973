use Rattle.std.proofs.Common.{sym, ◌∙◌}
use Rattle.std.proofs.lemmas.List.Folds.{list_any_at}
use Rattle.msc_race.proofs.Listing.Raced.{race_at}
use Rattle.msc_reason.specs.Counting.{counts}
use Rattle.msc_reason.specs.Marked.{cause_in}
use Rattle.msc_reason.proofs.counting.some_counts.Goals as goal

pub counts-requires : goal.counts-requires
counts-requires c = race_at c.args.enforced.now c.args.races.now c.loop-race.race-index c.loop-race-test.true c.requires

pub returns-then-counts : goal.returns-then-counts
returns-then-counts c =
    sym (list_any_at (counts c.args.allowed (cause_in c.args.enforced.now)) c.args.races.now c.loop-race.race-index (0, 0) c.loop-race-test.true
    (sym c.counts.ensures ∙ c.if-counts.true))

use Rattle.msc_race.specs.Races.{is_raced}
use Rattle.msc_race.specs.Views.{races_of}
use Rattle.msc_race.proofs.Listing.Ascending.{of_ascends}
use Rattle.std.proofs.Common.{length}
use Rattle.msc_reason.proofs.CountingLaws.{closest_listed, counting_listed}
use Rattle.msc_reason.proofs.Filtered.{filter_ascends}
use Rattle.msc_reason.proofs.CausesIn.{all_causes}
use Rattle.msc_reason.specs.Counting.{counts, is_listed}
use Rattle.msc_reason.proofs.laws.what_counts_is_listed.Goals as goal

pub returns-clause-counting : goal.returns-clause-counting
returns-clause-counting c e is accepted allowed causes are x y =
    counting_listed e is accepted c.each_race_has_one_kind.ensures.one allowed causes are x y

pub returns-clause-closest : goal.returns-clause-closest
returns-clause-closest c e is accepted allowed causes are x y =
    closest_listed e is accepted c.each_race_has_one_kind.ensures.one allowed causes are x y

pub returns-clause-ascending : goal.returns-clause-ascending
returns-clause-ascending c e allowed closest causes =
    let all = of_ascends (is_raced e.chart.events e.order) (length e.chart.events) in
    (filter_ascends (counts allowed causes) (races_of e) all, filter_ascends (is_listed e allowed closest causes) (races_of e) all)

pub returns-clause-causes : goal.returns-clause-causes
returns-clause-causes c e is accepted = all_causes e is accepted

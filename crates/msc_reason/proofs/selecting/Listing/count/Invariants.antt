use Rattle.std.proofs.Common.{◌≡◌, length}
use Rattle.std.specs.List.{filter}
use Rattle.msc_race.specs.Walks.{HasReached}
use Rattle.msc_race.proofs.Listing.Raced.{races_below}
use Rattle.msc_reason.specs.Counting.{is_listed}
use Rattle.msc_reason.specs.Marked.{cause_in}
use Rattle.msc_reason.proofs.selecting.Listing.count.Given as goal

-- so many races of the events so far are listed
abbrev pub invariant-loop-e : goal.invariant-loop-e
invariant-loop-e l = record {
  reached : HasReached l.self.judged.chart.events l.e l.stream.walk;
  count : l.count ≡ length (filter (is_listed l.self.judged l.self.allowed l.self.closest (cause_in l.self.judged)) (races_below l.self.judged l.e));
}

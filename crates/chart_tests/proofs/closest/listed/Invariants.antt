use Rattle.msc_race.specs.Walks.{HasReached}
use Rattle.chart_tests.proofs.closest.listed.Given as goal

abbrev pub invariant-loop-e : goal.invariant-loop-e
invariant-loop-e g l = HasReached l.listing.judged.chart.events l.e l.stream.walk

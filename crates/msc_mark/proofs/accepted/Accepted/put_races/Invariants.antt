use Rattle.std.proofs.Common.{◌≡◌}
use Rattle.msc_mark.proofs.Pairing.{ArePut}
use Rattle.msc_mark.proofs.accepted.Accepted.put_races.Given as goal

abbrev pub invariant-loop-race : goal.invariant-loop-race
invariant-loop-race l = record {
  size : l.pairs.events ≡ l.fn.pairs.events;
  put : ArePut l.self l.fn.pairs l.pairs l.races l.race-index;
}

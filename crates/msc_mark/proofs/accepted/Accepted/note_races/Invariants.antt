use Rattle.std.proofs.Common.{◌≡◌, length}
use Rattle.msc_mark.proofs.Noting.{AreNoted}
use Rattle.msc_mark.proofs.accepted.Accepted.note_races.Given as goal

abbrev pub invariant-loop-race : goal.invariant-loop-race
invariant-loop-race l = record {
  size : length l.fitting.items ≡ length l.fn.fitting.items;
  noted : AreNoted l.self l.fn.fitting.items l.fitting.items l.races l.race-index;
}

use Rattle.std.proofs.Common.{map}
use Rattle.msc_refusals.specs.Rings.{plain_ring, AreRing}
use Rattle.msc_refusals.proofs.ring.RingReader.events_of.Given as goal

abbrev pub invariant-loop-note : goal.invariant-loop-note
invariant-loop-note l = AreRing l.self.refused l.self.draft.now (map plain_ring l.events.items)

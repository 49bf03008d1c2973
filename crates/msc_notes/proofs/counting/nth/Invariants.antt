use Rattle.std.proofs.Common.{◌≡◌, ℕ, ◌+◌, ◌<◌, map, take, count_by}
use Rattle.msc_notes.specs.Events.{statement_view}
use Rattle.msc_notes.specs.Faults.{IsNth}
use Rattle.msc_notes.specs.Sorts.{is_of}
use Rattle.msc_notes.proofs.counting.nth.Given as goal

abbrev pub invariant-loop-e : goal.invariant-loop-e
invariant-loop-e l = record {
  left : l.left + count_by (is_of l.sort) (take l.e (map statement_view l.events)) ≡ l.count;
  none : (f : ℕ) → f < l.e → IsNth l.sort l.count (map statement_view l.events) f → ⊥;
}

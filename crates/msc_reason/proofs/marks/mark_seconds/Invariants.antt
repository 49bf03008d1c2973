use Rattle.std.proofs.Common.{◌≡◌, ℕ, cond, eqb, get_or, length, take}
use Rattle.std.specs.List.{list_any}
use Rattle.msc_reason.proofs.marks.mark_seconds.Given as goal

-- the second events of the races so far are noted
abbrev pub invariant-loop-race : goal.invariant-loop-race
invariant-loop-race l = record {
  size : length l.last.items ≡ length l.fn.last.items;
  marked : (y : ℕ) → get_or l.last.items y 0
      ≡ cond (list_any (λ p. eqb p.1 y) (take l.race-index l.races)) l.e (get_or l.fn.last.items y 0);
}

use Rattle.std.proofs.Common.{ℕ, ◌<◌, ◌≤◌, get_or}
use Rattle.msc_answer.proofs.reporting.are_ascending.Given as goal

-- the pairs so far are events, and their first events do not fall up to the last of them
abbrev pub invariant-loop-e : goal.invariant-loop-e
invariant-loop-e l = record {
  known : (i : ℕ) (d : ℕ × ℕ) → i < l.e-index
      → ((get_or l.races i d).0 < l.many) × ((get_or l.races i d).1 < l.many);
  ascend : (i j : ℕ) (d : ℕ × ℕ) → i ≤ j → j < l.e-index → (get_or l.races i d).0 ≤ (get_or l.races j d).0;
  last : (i : ℕ) (d : ℕ × ℕ) → i < l.e-index → (get_or l.races i d).0 ≤ l.last;
}

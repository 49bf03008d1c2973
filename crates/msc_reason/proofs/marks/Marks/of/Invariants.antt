use Rattle.std.proofs.Common.{◌≡◌, ◌+◌, ◌≤◌, ◌<◌, ℕ, length, get_or}
use Rattle.std.specs.Prelude.{IsTrue}
use Rattle.msc_race.specs.Walks.{HasReached}
use Rattle.msc_reason.specs.Marked.{is_counted, IsLeastSecond}
use Rattle.msc_reason.proofs.marks.Marks.of.Given as goal

-- the races of the events so far are noted
abbrev pub invariant-loop-e : goal.invariant-loop-e
invariant-loop-e l = record {
  reached : HasReached l.enforced.chart.events l.e l.walk;
  lasts : length l.last.items ≡ l.events;
  leasts : length l.least.items ≡ l.events + 1;
  end : (x y : ℕ) → x < l.e → IsTrue (is_counted l.enforced l.allowed x y)
      → (x ≤ get_or l.last.items y 0) × IsTrue (is_counted l.enforced l.allowed (get_or l.last.items y 0) y);
  own : (x : ℕ) → x < l.e → IsLeastSecond (is_counted l.enforced l.allowed) l.events x (get_or l.least.items x 0);
  rest : (x : ℕ) → l.e ≤ x → x ≤ l.events → get_or l.least.items x 0 ≡ l.events;
}

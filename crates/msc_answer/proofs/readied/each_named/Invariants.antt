use Rattle.std.proofs.Common.{◌≡◌, ℕ, ◌<◌, [], false, get_or, length, map}
use Rattle.std.specs.Prelude.{IsTrue, ◌↔◌}
use Rattle.msc_chart.specs.Lists.{Occurs}
use Rattle.msc_answer.proofs.readied.each_named.Given as goal

-- of each instance so far it is said whether it is named
abbrev pub invariant-loop-i : goal.invariant-loop-i
invariant-loop-i l = record {
  each : length l.lines.items ≡ l.i;
  named : (k : ℕ) → k < l.i → IsTrue (get_or l.lines.items k false) ↔ Occurs (map (λ name. name.now) l.names) (get_or l.chart.instances k []);
}

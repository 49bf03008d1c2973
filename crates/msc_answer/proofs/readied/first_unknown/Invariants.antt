use Rattle.std.proofs.Common.{ℕ, ◌<◌, List, map}
use Rattle.msc_chart.specs.Lists.{Occurs, StandsAt}
use Rattle.msc_answer.proofs.readied.first_unknown.Given as goal

-- each of the names so far is that of an instance
abbrev pub invariant-loop-name : goal.invariant-loop-name
invariant-loop-name l =
    (k : ℕ) → k < l.name-index → (other : List ℕ) → StandsAt (map (λ name. name.now) l.names) k other → Occurs l.chart.instances other

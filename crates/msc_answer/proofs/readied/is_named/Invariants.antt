use Rattle.std.proofs.Common.{ℕ, ◌<◌, map}
use Rattle.msc_chart.specs.Lists.{StandsAt}
use Rattle.msc_answer.proofs.readied.is_named.Given as goal

-- none of the names so far is the instance's
abbrev pub invariant-loop-name : goal.invariant-loop-name
invariant-loop-name l = (k : ℕ) → k < l.name-index → StandsAt (map (λ name. name.now) l.names) k l.instance → ⊥

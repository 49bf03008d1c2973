use Rattle.std.proofs.Common.{ℕ, ◌<◌}
use Rattle.msc_ready.specs.Held.{wiring_of, ready_in}
use Rattle.msc_ready.specs.Looking.{ComesOn}
use Rattle.msc_ready.proofs.beginning.Beginning.least_on.Given as goal

-- none of the events of the line so far may come
abbrev pub invariant-loop-x : goal.invariant-loop-x
invariant-loop-x l = (y : ℕ) → y < l.x → ComesOn (wiring_of l.ready) (ready_in l.ready) l.among l.self.run.items l.i y → ⊥

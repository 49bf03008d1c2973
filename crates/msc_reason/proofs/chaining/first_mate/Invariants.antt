use Rattle.std.proofs.Common.{ℕ, ◌<◌}
use Rattle.msc_race.specs.Views.{wiring_of}
use Rattle.msc_reason.specs.Links.{IsMate}
use Rattle.msc_reason.proofs.chaining.first_mate.Given as goal

-- none of the events so far is one
abbrev pub invariant-loop-u : goal.invariant-loop-u
invariant-loop-u l = (u : ℕ) → u < l.u → IsMate (wiring_of l.enforced) l.e l.f u → ⊥

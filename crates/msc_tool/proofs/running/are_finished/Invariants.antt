use Rattle.std.proofs.Common.{◌≡◌, ℕ, ◌<◌, get_or}
use Rattle.msc_ending.specs.declared.end.End.TheVariants.{Finished}
use Rattle.msc_tool.proofs.running.are_finished.Given as goal

-- the ends that were looked at are `Finished`
abbrev pub invariant-loop-i : goal.invariant-loop-i
invariant-loop-i l = (i : ℕ) → i < l.i → get_or l.ends i Finished ≡ Finished

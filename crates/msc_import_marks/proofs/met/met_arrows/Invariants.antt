use Rattle.std.proofs.Common.{◌≡◌, take}
use Rattle.msc_import_marks.specs.Met.{met_arrows}
use Rattle.msc_import_marks.proofs.met.met_arrows.Given as goal

abbrev pub invariant-loop-step : goal.invariant-loop-step
invariant-loop-step l = l.met.items ≡ met_arrows l.own l.statements (take l.step-index l.steps)

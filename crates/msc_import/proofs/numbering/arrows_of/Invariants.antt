use Rattle.std.proofs.Common.{◌≡◌, map, take}
use Rattle.msc_import.specs.Numbering.{arrows_of}
use Rattle.msc_import.proofs.numbering.arrows_of.Given as goal

abbrev pub invariant-loop-step : goal.invariant-loop-step
invariant-loop-step l = map (λ m. m.now) l.arrows.items ≡ arrows_of (take l.step-index l.steps)

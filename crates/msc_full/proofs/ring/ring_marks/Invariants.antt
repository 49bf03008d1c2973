use Rattle.std.proofs.Common.{◌≡◌, ◌∷◌, [], map, take}
use Rattle.msc_diagnostic.specs.declared.mark.Sign.TheVariants.{Caret, Dash}
use Rattle.msc_diagnostic.specs.Plain.{plain_mark}
use Rattle.msc_full.specs.Blocks.{mark_of}
use Rattle.msc_full.proofs.ring.ring_marks.Given as goal

-- the first event and those of the steps so far are marked
abbrev pub invariant-loop-step : goal.invariant-loop-step
invariant-loop-step l =
    map plain_mark l.marks.items
    ≡ mark_of l.first Caret [] ∷ map (λ step. mark_of step.first Dash []) (take l.step-index (take l.count l.others))

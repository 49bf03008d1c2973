use Rattle.std.proofs.Common.{◌≡◌, ◌++◌, take}
use Rattle.std.specs.List.{flat_map}
use Rattle.std.specs.String.{string_bytes}
use Rattle.msc_wording.specs.Scenarios.{next_choice}
use Rattle.msc_wording.proofs.scenario.print_choices.Given as goal

-- the choices so far have been appended
abbrev pub invariant-loop-choice : goal.invariant-loop-choice
invariant-loop-choice l =
    string_bytes l.text ≡ string_bytes l.initial.text ++ flat_map next_choice (take l.choice-index l.choices)

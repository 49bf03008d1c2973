use Rattle.std.proofs.Common.{◌≡◌, ◌++◌, take}
use Rattle.std.specs.Fmt.{decimal}
use Rattle.std.specs.List.{flat_map}
use Rattle.msc_scenarios.specs.Naming.{round_text}
use Rattle.msc_scenarios.proofs.line_name.number_name.Given as goal

abbrev pub invariant-loop-round : goal.invariant-loop-round
invariant-loop-round l =
    l.name.items ≡ decimal l.number ++ flat_map round_text (take l.round-index l.rounds)

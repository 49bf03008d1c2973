use Rattle.std.proofs.Common.{◌++◌, ap, ◌∙◌}
use Rattle.std.specs.Fmt.{decimal}
use Rattle.std.specs.List.{flat_map}
use Rattle.std.proofs.lemmas.List.{take_all}
use Rattle.msc_scenarios.specs.Naming.{number_name, round_text}
use Rattle.msc_scenarios.proofs.line_name.number_name.Goals as goal

pub returns : goal.returns
unfolding number_name
returns c =
    c.loop-round.invariant ∙ ap (λ rs. decimal c.args.number ++ flat_map round_text rs) (take_all c.loop-round.round-index c.args.rounds.now c.loop-round-test.false)

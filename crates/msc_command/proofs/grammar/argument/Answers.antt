use Rattle.msc_command.proofs.grammar.argument.Goals as goal

pub returns : goal.returns
returns c = c.below.ensures _ c.by_kind-argument.ensures

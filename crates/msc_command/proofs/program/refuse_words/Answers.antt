use Rattle.msc_command.proofs.program.refuse_words.Goals as goal

pub returns-clause-usage : goal.returns-clause-usage
returns-clause-usage g c = λ other. c.code-2.ensures

use Rattle.msc_reason.proofs.cause.RaceKind.word.Goals as goal

pub returns-in-Unordered : goal.returns-in-Unordered
returns-in-Unordered c = rw c.in-Unordered.is

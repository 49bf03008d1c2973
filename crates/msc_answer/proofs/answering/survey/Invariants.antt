use Rattle.std.proofs.Common.{drop}
use Rattle.msc_answer.proofs.AllSurveyed.{SoFar}
use Rattle.msc_answer.proofs.answering.survey.Given as goal

abbrev pub invariant-loop-number : goal.invariant-loop-number
invariant-loop-number g l =
    SoFar g.O.Write.contents l.initial.words l.request.file.now l.found.text l.numbers l.words l.is_listed l.is_marked l.worst (drop l.number-index l.numbers) l.initial.output l.output

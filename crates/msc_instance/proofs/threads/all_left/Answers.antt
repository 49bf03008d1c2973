use Rattle.std.proofs.Common.{◌≡◌, [], ◌++◌, map, reverse, ap, arith, ◌∙◌}
use Rattle.std.proofs.lemmas.List.{nil_from_length}
use Rattle.msc_instance.specs.declared.threads.Answer.TheVariants.{Ran}
use Rattle.msc_instance.proofs.Answered.{told}
use Rattle.msc_instance.proofs.threads.all_left.Goals as goal

pub returns-in-NotRun-clause-told : goal.returns-in-NotRun-clause-told
returns-in-NotRun-clause-told c =
    told c.args.answers.items c.loop-answer.answers.items c.pop.new.self.items _ c.in-Some.answer c.in-NotRun.job
    c.loop-answer.invariant.whole c.in-Some.ensures.items c.in-NotRun.is

pub returns-clause-left : goal.returns-clause-left
returns-clause-left c =
    let none : c.loop-answer.answers.items ≡ [] = nil_from_length c.loop-answer.answers.items (omega (arith, c.in_default.ensures.cases.0)) in
    c.loop-answer.invariant.whole ∙ ap (λ l. l ++ reverse (map Ran c.loop-answer.ran.items)) none

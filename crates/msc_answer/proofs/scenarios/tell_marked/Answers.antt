use Rattle.std.proofs.Common.{subst}
use Rattle.std.proofs.lemmas.Result.{err_from_is_err_and}
use Rattle.msc_diagram.specs.Judging.{PassesScenarios}
use Rattle.msc_diagram.specs.declared.check.ScenarioCheck.{ScenarioCheck}
use Rattle.msc_answer.proofs.SurveyLemmas.{not_told, passes_so, told_all}
use Rattle.msc_answer.proofs.scenarios.tell_marked.Goals as goal

pub returns-then-words : goal.returns-then-words
returns-then-words g c =
    rw c.ended_by.ensures (passes_so g.O.Write.contents c.args.words.check_args c.args.told c.args.marks c.args.scenarios.now c.requires c.args.words.quiet _ c.args.output.now
    c.if-words.true (subst (λ (k : ScenarioCheck). PassesScenarios c.args.scenarios.now k c.in_ok-passes.passes) c.check_of.ensures c.in_ok-passes.ensures))

pub returns-in_err-judged : goal.returns-in_err-judged
returns-in_err-judged g c =
    let p = err_from_is_err_and c.from_residual-in_err-judged.result c.from_residual-in_err-judged.ensures.1 in
    rw (p.1, p.2) (not_told g.O.Write.contents c.args.words.check_args c.args.told c.args.marks c.args.scenarios.now c.requires c.args.words.quiet c.if-words.false
    _ c.args.output.now _ c.in_err-judged.ensures)

pub returns : goal.returns
returns g c =
    rw (c.surveyed_of.ensures, c.has_marks.ensures) (told_all g.O.Write.contents c.args.words.check_args c.args.told c.args.marks c.args.scenarios.now c.requires c.args.words.quiet c.if-words.false
    _ c.args.output.now _ c.in_ok-judged.ensures)

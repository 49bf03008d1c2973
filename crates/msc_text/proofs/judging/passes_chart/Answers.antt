use Rattle.std.proofs.Common.{true, false, refl, subst}
use Rattle.std.specs.Prelude.{option_map}
use Rattle.std.proofs.lemmas.Result.{IfOk-weaker}
use Rattle.msc_chart.specs.Drawings.{Drawing}
use Rattle.msc_text.specs.Judging.{PassesOnce, PassesRounds}
use Rattle.msc_text.proofs.judging.passes_chart.Goals as goal

pub returns-in_default : goal.returns-in_default
returns-in_default c = rw c.in_default.is c.in_ok-passed.ensures

pub returns-then-not-passed : goal.returns-then-not-passed
returns-then-not-passed c =
    let marks = option_map (λ m. m.now) c.args.input.marks in
    rw c.in-Some.is (false, subst (PassesOnce c.args.input.chart.now c.args.input.queues c.args.allowed marks) c.if-not-passed.true c.in_ok-passed.ensures, refl)

pub returns : goal.returns
returns c =
    let marks = option_map (λ m. m.now) c.args.input.marks in
    let same = rw c.in-Some.is at c.requires in
    rw c.in-Some.is (IfOk-weaker c.passes_rounds.result _ _
    (λ none told. (true, subst (PassesOnce c.args.input.chart.now c.args.input.queues c.args.allowed marks) c.if-not-passed.false c.in_ok-passed.ensures, subst (λ (d : Drawing). PassesRounds d c.args.input.queues c.args.allowed none) same told)) c.passes_rounds.ensures)

use Rattle.std.proofs.lemmas.Result.{IfOk-weaker}
use Rattle.msc_race.specs.Views.{wiring_of}
use Rattle.msc_race.proofs.Pasts.Showing.{each_match, shown_short, shown_whole}
use Rattle.msc_race.proofs.enforced.Enforced.shown_run.Goals as goal

pub returns-then-short : goal.returns-then-short
returns-then-short c =
    let chart = wiring_of c.args.self.now in
    rw c.if-short.true (IfOk-weaker c.short_witness.result _ _
    (λ run answer. each_match _ _ _ (λ v its. shown_short chart c.args.e c.args.f v.items its) run answer) c.short_witness.ensures)

pub returns : goal.returns
returns c =
    let chart = wiring_of c.args.self.now in
    rw c.if-short.false (IfOk-weaker c.reversing_run.result _ _
    (λ run answer. each_match _ _ _ (λ v its. shown_whole chart c.args.e c.args.f v.items its) run answer) c.reversing_run.ensures)

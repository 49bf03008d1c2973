use Rattle.std.proofs.Common.{length, ap₂, ◌∙◌, arith}
use Rattle.std.proofs.lemmas.Result.{IfOk-weaker}
use Rattle.msc_race.specs.Wired.{EnforcedChart}
use Rattle.msc_reason.specs.Counting.{counting}
use Rattle.msc_reason.specs.Marked.{cause_in}
use Rattle.msc_reason.specs.declared.left_out.LeftOut.{LeftOut}
use Rattle.msc_judge.proofs.Fewer.{fewer_count}
use Rattle.msc_judge.proofs.heading.counting_of.Goals as goal

pub returns-clause-few : goal.returns-clause-few
returns-clause-few c =
    let s = c.args.listing.now in
    IfOk-weaker c.count_counting.result _ _
    (λ count is.
    let same = is ∙ ap₂ (λ (x : EnforcedChart) (l : LeftOut). length (counting x l (cause_in x))) c.enforced.ensures c.left_out-left.ensures in
    let fewer = fewer_count s.judged s.allowed (cause_in s.judged) in
    omega (arith, same, fewer, c.requires.others))
    c.count_counting.ensures.count

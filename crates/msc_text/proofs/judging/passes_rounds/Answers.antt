use Rattle.std.proofs.Common.{sym, ap, ◌∙◌, subst}
use Rattle.std.proofs.lemmas.Result.{IfOk-weaker}
use Rattle.msc_chart.specs.Drawings.{Drawing, IsAccepted}
use Rattle.msc_race.specs.Wired.{IsEnforced}
use Rattle.msc_reason.specs.Marked.{cause_in}
use Rattle.msc_reason.specs.Selected.{Selected}
use Rattle.msc_reason.specs.declared.kinds.KindSet.{KindSet}
use Rattle.msc_reason.specs.declared.left_out.LeftOut.{LeftOut}
use Rattle.msc_judge.specs.Between.{told_of}
use Rattle.msc_judge.specs.Rounds.{AreRoundRaces}
use Rattle.msc_text.proofs.Judgements.{passes_between}
use Rattle.msc_text.proofs.judging.passes_rounds.Goals as goal

pub returns : goal.returns
returns c =
    let listing = c.in_ok-listing.ensures in
    let two = c.in_ok-listing.listing.judged in
    let allowed = c.in_ok-listing.listing.allowed in
    let one = c.args.unrolled.now in
    let pairs = told_of c.numbers.result.now two allowed in
    let kinds = ap (λ (s : Selected). s.allowed.kinds) listing ∙ ap (λ (l : LeftOut). l.kinds) c.of_kinds.ensures in
    let told = subst (λ (k : KindSet). AreRoundRaces one two k (cause_in two) pairs) kinds
    (subst (λ (d : Drawing). AreRoundRaces d two allowed.kinds (cause_in two) pairs) c.numbers.ensures c.are_closest.ensures) in
    IfOk-weaker c.has_none.result _ _
    (λ none answered. passes_between one two c.args.queues c.args.allowed pairs none
    (ap (λ (s : Selected). s.judged.chart) listing ∙ c.in_ok-both.ensures.chart ∙ c.two.ensures)
    (ap (λ (s : Selected). s.judged.queues) listing ∙ c.in_ok-both.ensures.queues)
    (subst (λ (s : Selected). IsAccepted s.judged.chart) (sym listing) c.facts.ensures.chart)
    (subst (λ (s : Selected). IsEnforced s.judged) (sym listing) c.facts.ensures.order) told answered)
    c.has_none.ensures

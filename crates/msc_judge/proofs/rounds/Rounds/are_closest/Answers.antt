use Rattle.std.proofs.Common.{ap, subst}
use Rattle.msc_race.specs.Wired.{IsEnforced}
use Rattle.msc_reason.specs.declared.left_out.LeftOut.{LeftOut}
use Rattle.msc_judge.proofs.BetweenLemmas.{told_list}
use Rattle.msc_judge.proofs.rounds.Rounds.are_closest.Goals as goal

pub returns : goal.returns
returns c =
    let s = c.args.self.listing.now in
    told_list c.args.self.numbers.now s.judged s.allowed (subst IsEnforced c.enforced.ensures c.facts.ensures.order)
    (ap (λ (l : LeftOut). l.accepted) c.requires)

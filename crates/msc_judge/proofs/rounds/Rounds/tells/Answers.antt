use Rattle.std.proofs.Common.{ap₂, sym, ◌∙◌, subst, arith}
use Rattle.std.specs.Prelude.{◌↔◌, IsTrue}
use Rattle.msc_chart.proofs.ListLemmas.{clash}
use Rattle.msc_chart.specs.Orders.{IsRace}
use Rattle.msc_race.specs.Views.{wiring_of}
use Rattle.msc_race.specs.Wired.{EnforcedChart, IsEnforced}
use Rattle.msc_reason.specs.Counting.{counts}
use Rattle.msc_reason.specs.Marked.{cause_in}
use Rattle.msc_reason.specs.declared.left_out.LeftOut.{LeftOut}
use Rattle.msc_judge.proofs.BetweenLemmas.{raced_is_race, told_not, told_when, two_many}
use Rattle.msc_judge.proofs.rounds.Rounds.tells.Goals as goal

pub place-requires : goal.place-requires
place-requires c =
    let many = two_many c.args.self.numbers.now c.args.self.listing.now.judged.chart c.args.self.two in
    record { known = omega (arith, many, c.requires.y_known) }

pub returns-then-place-ne1 : goal.returns-then-place-ne1
returns-then-place-ne1 c =
    let s = c.args.self.listing.now in
    let other = c.if-place-ne1.true in
    let round = c.place.ensures.round in
    sym (told_not c.args.self.numbers.now s.judged s.allowed c.args.x c.args.y (λ p. let second = p.second in omega (arith, other, round, second)))

pub returns-then-not-is_race : goal.returns-then-not-is_race
returns-then-not-is_race c =
    let s = c.args.self.listing.now in
    let is = subst IsEnforced c.enforced-enforced.ensures c.facts.ensures.order in
    let exact = subst (λ (e : EnforcedChart). IsTrue c.is_race.result ↔ IsRace (wiring_of e) c.args.x c.args.y) c.enforced-enforced.ensures c.is_race.ensures in
    sym (told_not c.args.self.numbers.now s.judged s.allowed c.args.x c.args.y
    (λ p. clash (exact.1 ((raced_is_race s.judged is c.args.x c.args.y).0 p.raced)) c.if-not-is_race.true))

pub returns : goal.returns
returns c =
    let s = c.args.self.listing.now in
    let is = subst IsEnforced c.enforced-enforced.ensures c.facts.ensures.order in
    let exact = subst (λ (e : EnforcedChart). IsTrue c.is_race.result ↔ IsRace (wiring_of e) c.args.x c.args.y) c.enforced-enforced.ensures c.is_race.ensures in
    let raced = (raced_is_race s.judged is c.args.x c.args.y).1 (exact.0 c.if-not-is_race.false) in
    c.counts.ensures ∙ ap₂ (λ (e : EnforcedChart) (l : LeftOut). counts l (cause_in e) (c.args.x, c.args.y)) c.enforced-enforced.ensures c.left_out.ensures
    ∙ told_when c.args.self.numbers.now s.judged s.allowed c.args.x c.args.y c.requires.first (sym c.place.ensures.round ∙ c.if-place-ne1.false) raced c.requires.next

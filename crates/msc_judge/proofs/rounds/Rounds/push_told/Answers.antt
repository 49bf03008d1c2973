use Rattle.std.proofs.Common.{◌++◌, ◌∷◌, [], ℕ, List, ap, sym, ◌∙◌, arith}
use Rattle.std.proofs.lemmas.List.{append-nil, append_assoc}
use Rattle.msc_chart.specs.Lists.{pairs_to}
use Rattle.msc_race.proofs.Listing.Pairs.{pairs_more, pairs_skip}
use Rattle.msc_race.specs.Wired.{EnforcedChart}
use Rattle.msc_chart.specs.Drawings.{IsAccepted}
use Rattle.std.proofs.Common.{subst}
use Rattle.msc_judge.specs.Between.{is_told}
use Rattle.msc_judge.proofs.BetweenLemmas.{none_below, none_up_to}
use Rattle.msc_judge.proofs.NextSegments.{next_segment}
use Rattle.msc_judge.proofs.rounds.Rounds.push_told.Goals as goal
use Rattle.msc_judge.proofs.rounds.Rounds.push_told.Goals.{then-tells+in_ok-push, else-tells}

pub loop-y-init : goal.loop-y-init
loop-y-init c =
    let s = c.args.self.listing.now in
    let accepted = subst (λ (e : EnforcedChart). IsAccepted e.chart) c.enforced-enforced.ensures c.facts.ensures.chart in
    let none = none_up_to c.args.self.numbers.now s.judged s.allowed accepted.in_text_order c.args.x c.args.start c.requires.start in
    record {
      low = omega arith;
      list = sym (ap (λ (l : List (ℕ × ℕ)). c.args.list.now.items ++ l) none ∙ append-nil c.args.list.now.items);
    }

pub tells-requires-clause-next : goal.tells-requires-clause-next
tells-requires-clause-next c =
    let s = c.args.self.listing.now in
    let accepted = subst (λ (e : EnforcedChart). IsAccepted e.chart) c.enforced-enforced.ensures c.facts.ensures.chart in
    next_segment s.judged.chart.events accepted.in_text_order c.args.x c.args.start c.requires.start c.args.end c.requires.end c.loop-y.y c.loop-y.invariant.low
    (omega (arith, c.loop-y-test.true))

pub loop-y-preserved : goal.loop-y-preserved
loop-y-preserved c =
    let s = c.args.self.listing.now in
    let test = is_told c.args.self.numbers.now s.judged s.allowed in
    let x : ℕ = c.args.x in
    let y : ℕ = c.loop-y.y in
    let low = c.loop-y.invariant.low in
    record {
      low = omega (arith, low);
      list = elim c.if-tells.branch [
        | then-tells+in_ok-push w ↦
            let more = pairs_more test x y (sym c.tells.ensures ∙ w.if-tells.true) in
            rw w.list-is (w.in_ok-push.ensures.items ∙ ap (λ (l : List (ℕ × ℕ)). l ++ (x, y) ∷ []) c.loop-y.invariant.list
            ∙ append_assoc c.args.list.now.items (pairs_to test x y) ((x, y) ∷ [])
            ∙ ap (λ (l : List (ℕ × ℕ)). c.args.list.now.items ++ l) (sym more))
        | else-tells w ↦
            let same = pairs_skip test x y (sym c.tells.ensures ∙ w.if-tells.false) in
            rw w.list-is (c.loop-y.invariant.list ∙ ap (λ (l : List (ℕ × ℕ)). c.args.list.now.items ++ l) (sym same))
      ];
    }

pub returns : goal.returns
returns c =
    let s = c.args.self.listing.now in
    let test = is_told c.args.self.numbers.now s.judged s.allowed in
    let accepted = subst (λ (e : EnforcedChart). IsAccepted e.chart) c.enforced-enforced.ensures c.facts.ensures.chart in
    let past = none_below c.args.self.numbers.now s.judged s.allowed accepted.in_text_order c.args.x c.args.start c.requires.start c.args.end c.requires.end in
    let last = c.loop-y-test.false in
    let auto = c.loop-y.auto in
    let later = c.requires.end.later in
    c.loop-y.invariant.list ∙ ap (λ (n : ℕ). c.args.list.now.items ++ pairs_to test c.args.x n) (omega arith)
    ∙ ap (λ (l : List (ℕ × ℕ)). c.args.list.now.items ++ l) (sym past)

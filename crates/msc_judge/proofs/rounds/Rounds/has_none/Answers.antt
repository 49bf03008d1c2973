use Rattle.std.proofs.Common.{ℕ, List, length, nat_eq, ap, sym, ◌∙◌, arith}
use Rattle.msc_judge.proofs.BetweenLemmas.{some_told, still_none, told_last, told_none}
use Rattle.msc_judge.proofs.rounds.Rounds.has_none.Goals as goal

pub loop-x-init : goal.loop-x-init
loop-x-init c =
    let s = c.args.self.listing.now in
    told_none c.args.self.numbers.now s.judged s.allowed

pub returns-then-not-is_empty : goal.returns-then-not-is_empty
returns-then-not-is_empty c =
    let s = c.args.self.listing.now in
    let less = c.loop-x-test.true in
    let all = c.events-x-end.ensures in
    some_told c.args.self.numbers.now s.judged s.allowed c.loop-x.x c.next_pairs.new.list.items c.is_empty.result (omega (arith, less, all)) c.in_ok-next_pairs.ensures.list (c.is_empty.ensures ∙ ap (λ (n : ℕ). nat_eq n 0) c.next_pairs.new.list.ok.0) c.if-not-is_empty.true

pub loop-x-preserved : goal.loop-x-preserved
loop-x-preserved c =
    let s = c.args.self.listing.now in
    still_none c.args.self.numbers.now s.judged s.allowed c.loop-x.x c.next_pairs.new.list.items c.is_empty.result c.loop-x.invariant c.in_ok-next_pairs.ensures.list (c.is_empty.ensures ∙ ap (λ (n : ℕ). nat_eq n 0) c.next_pairs.new.list.ok.0) c.if-not-is_empty.false

pub returns : goal.returns
returns c =
    let s = c.args.self.listing.now in
    let last = c.loop-x-test.false in
    let auto = c.loop-x.auto in
    let all = c.events-x-end.ensures in
    sym (ap (λ (l : List (ℕ × ℕ)). nat_eq (length l) 0) (sym (told_last c.args.self.numbers.now s.judged s.allowed c.loop-x.x (omega arith)) ∙ c.loop-x.invariant))

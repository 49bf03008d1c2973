use Rattle.std.proofs.Common.{◌+◌, drop, sym, ap, ◌∙◌}
use Rattle.msc_scenarios.specs.Counting.{by_rounds, all, plus}
use Rattle.msc_scenarios.proofs.CountLemmas.{rounds_more, rounds_end, rounds_past}
use Rattle.msc_scenarios.proofs.counting.Paths.by_rounds.Goals as goal

pub loop-count-preserved : goal.loop-count-preserved
loop-count-preserved c =
    let l = c.loop-count in
    let is = c.plus-number.ensures ∙ ap (plus l.number) (c.all.ensures ∙ ap all c.repeated.ensures) in
    ap (by_rounds c.args.self (drop (l.count-index + 1) c.args.rounds.now)) is
    ∙ sym (rounds_more c.args.self c.args.rounds.now l.count-index l.number 0 c.loop-count-test.true)
    ∙ l.invariant

pub returns-then-number : goal.returns-then-number
returns-then-number c =
    let l = c.loop-count in let rest = drop l.count-index c.args.rounds.now in
    c.if-number.true ∙ sym (rounds_past c.args.self rest) ∙ ap (by_rounds c.args.self rest) (sym c.if-number.true) ∙ l.invariant

pub returns : goal.returns
returns c =
    let l = c.loop-count in
    sym (rounds_end c.args.self c.args.rounds.now l.count-index l.number c.loop-count-test.false) ∙ l.invariant

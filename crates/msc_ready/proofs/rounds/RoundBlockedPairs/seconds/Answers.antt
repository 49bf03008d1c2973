use Rattle.std.proofs.Common.{sym, ◌∙◌}
use Rattle.std.proofs.lemmas.Bool.{and_parts, eqb-true}
use Rattle.msc_ready.proofs.Between.{none_seconds, seconds}
use Rattle.msc_ready.proofs.rounds.RoundBlockedPairs.seconds.Goals as goal

pub returns-then-not-is_begun : goal.returns-then-not-is_begun
returns-then-not-is_begun c =
    none_seconds c.args.self.now.blocked_pairs.now c.args.self.now.numbers.now c.args.x (sym c.is_begun.ensures ∙ c.if-not-is_begun.true)

pub returns : goal.returns
returns c =
    let first = eqb-true _ _ (and_parts _ _ (sym c.is_begun.ensures ∙ c.if-not-is_begun.false)).0 in
    let end = rw (c.chart.ensures, c.ready.ensures) at c.line_end.ensures in
    seconds c.args.self.now.blocked_pairs.now c.args.self.now.numbers.now c.args.self.now.two c.args.x c.second_round-start.result c.second_round-start.ensures.begins
    c.line_end.result c.requires.known first end c.second_round-start.ensures.known c.second_round-start.ensures.line

use Rattle.std.proofs.Common.{◌≡◌, ◌++◌, codes, decimal, arith, rules, refl}
use Rattle.std.proofs.lemmas.Fmt.{decimal_digit}
use Rattle.msc_report.proofs.rounds.print_round.Goals as goal

-- the names of the first round and of the second
first_round : codes "." ++ decimal 1 ≡ codes ".1"
first_round = rw (decimal_digit 1 (omega arith)) refl

second_round : codes "." ++ decimal 2 ≡ codes ".2"
second_round = rw (decimal_digit 2 (omega arith)) refl

pub returns-then-round-eq0 : goal.returns-then-round-eq0
returns-then-round-eq0 c = rw (c.if-round-eq0.true, first_round) (search rules)

pub returns : goal.returns
returns c =
    let one : c.args.round ≡ 1 = omega (arith, c.requires, c.if-round-eq0.false) in
    rw (one, second_round) (search rules)

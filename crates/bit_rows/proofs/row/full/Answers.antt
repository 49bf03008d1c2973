use Rattle.std.proofs.Common.{◌≡◌, ◌*◌, ◌%◌, ap, ltb, refl, ◌∙◌, arith}
use Rattle.bit_rows.proofs.Bits.{words_enough, words_few}
use Rattle.bit_rows.proofs.Rows.{has_cut, has_ones}
use Rattle.bit_rows.proofs.row.full.Goals as goal

pub returns-then-rest-eq0-clause-numbers : goal.returns-then-rest-eq0-clause-numbers
returns-then-rest-eq0-clause-numbers c y =
    let count = c.word_count.ensures.count in
    let enough = words_enough c.args.n in
    let few = words_few c.args.n in
    let all : 64 * c.word_count.result ≡ c.args.n = omega (arith, count, enough, few, c.if-rest-eq0.true) in
    rw c.in_ok-row.ensures (has_ones c.word_count.result y ∙ ap (λ k. ltb y k) all)

pub returns-clause-numbers : goal.returns-clause-numbers
returns-clause-numbers c y =
    let count = c.word_count.ensures.count in
    let enough = words_enough c.args.n in
    let few = words_few c.args.n in
    let some = c.if-rest-eq0.false in
    rw c.in_ok-row.ensures (has_cut c.word_count.result c.args.n (c.args.n % 64) y (omega (arith, count, enough, few)) refl (omega (arith, some)))

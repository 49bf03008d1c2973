use Rattle.std.proofs.Common.{◌≡◌, ◌||◌, ◌∙◌, Bool, eqb, ap, arith, length}
use Rattle.bit_rows.specs.Rows.{has, word_count}
use Rattle.bit_rows.specs.Tables.{cell}
use Rattle.bit_rows.proofs.Bits.{words_enough}
use Rattle.bit_rows.proofs.Writes.{put_both}
use Rattle.bit_rows.proofs.table.put_row.Goals as goal

pub put-requires : goal.put-requires
put-requires c =
    let size : length c.join.new.row ≡ word_count c.args.n = c.join.auto.row ∙ c.requires.length in
    let enough = words_enough c.args.n in
    let known = c.requires.column in
    omega (arith, size, enough, known)

pub returns : goal.returns
returns c y =
    c.put.ensures y
    ∙ ap (λ (b : Bool). b || eqb y c.args.c) (c.join.ensures y ∙ ap (λ (b : Bool). has c.args.row.now y || b) (c.row_of.ensures.numbers y))
    ∙ put_both (has c.args.row.now y) (cell c.args.n c.args.words.now c.args.c y) (eqb y c.args.c)

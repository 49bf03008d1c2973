use Rattle.std.proofs.Common.{◌≡◌, ◌&&◌, ◌∙◌, Bool, not, eqb, ap, arith, length}
use Rattle.bit_rows.specs.Rows.{has, word_count}
use Rattle.bit_rows.specs.Tables.{cell}
use Rattle.bit_rows.proofs.Bits.{words_enough}
use Rattle.bit_rows.proofs.Writes.{drop_both}
use Rattle.bit_rows.proofs.table.drop_row.Goals as goal

pub clear-requires : goal.clear-requires
clear-requires c =
    let size : length c.part.new.row ≡ word_count c.args.n = c.part.auto.row ∙ c.requires.left in
    let enough = words_enough c.args.n in
    let known = c.requires.column in
    omega (arith, size, enough, known)

pub returns : goal.returns
returns c y =
    c.clear.ensures y
    ∙ ap (λ (b : Bool). b && not (eqb y c.args.c)) (c.part.ensures y ∙ ap (λ (b : Bool). has c.args.left.now y && not b) (c.row_of.ensures.numbers y))
    ∙ drop_both (has c.args.left.now y) (cell c.args.n c.args.words.now c.args.c y) (eqb y c.args.c)

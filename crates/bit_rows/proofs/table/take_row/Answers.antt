use Rattle.std.proofs.Common.{◌≡◌, ℕ, ◌+◌, ◌-◌, ◌*◌, ◌∙◌, sym, arith}
use Rattle.bit_rows.specs.Rows.{word_count}
use Rattle.bit_rows.proofs.Cells.{part_length, row_joined}
use Rattle.bit_rows.proofs.table.take_row.Goals as goal

pub join-requires : goal.join-requires
join-requires c =
    let start : ℕ = c.args.e * word_count c.args.n in
    rw c.word_count-count.ensures.count
    (c.requires.numbers ∙ sym (part_length c.args.n c.args.e (start + word_count c.args.n - start) c.args.words.now c.requires.row (omega arith)))

pub returns : goal.returns
returns c =
    let same = c.word_count-count.ensures.count in
    let start : ℕ = c.args.e * word_count c.args.n in
    let count : ℕ = start + word_count c.args.n - start in
    let all : count ≡ word_count c.args.n = omega arith in
    let size = (rw same at c.join.auto.row) ∙ part_length c.args.n c.args.e count c.args.words.now c.requires.row all in
    rw same
    (row_joined c.args.n c.args.e count c.args.words.now c.join.new.row c.args.row.now c.requires.row size all c.requires.numbers (rw same at c.join.ensures))

use Rattle.std.proofs.Common.{arith}
use Rattle.bit_rows.proofs.Bits.{words_few}
use Rattle.bit_rows.proofs.Sets.{summary_blank}
use Rattle.bit_rows.proofs.set.Set.blank.Goals as goal

pub invariant_of-result : goal.invariant_of-result
invariant_of-result c =
    let few = words_few c.args.n in
    let small = c.requires in
    let words = c.in_ok-blank.ensures.words in
    summary_blank c.in_ok-blank.field-0.items (omega (arith, few, small, words)) c.in_ok-blank.ensures.none

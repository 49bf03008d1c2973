use Rattle.std.proofs.Common.{◌≡◌, ◌+◌, ◌*◌, ◌%◌, arith, w64, refl}
use Rattle.std.specs.Int.{trailing_zeros}
use Rattle.std.proofs.Math.Facts.{Fits-lt-pow}
use Rattle.std.proofs.lemmas.Nat.Bits.{bit_at-trailing_zeros}
use Rattle.bit_rows.specs.Rows.{bit_of}
use Rattle.bit_rows.proofs.row.lowest_in.Goals as goal

pub returns-clause-itself : goal.returns-clause-itself
unfolding bit_of
returns-clause-itself c =
    let some = c.requires.some in
    let low = bit_at-trailing_zeros w64 c.args.word (omega (arith, some)) (Fits-lt-pow c.ranges.word) in
    let t_below = low.0 in
    let rest : (64 * c.args.k + trailing_zeros w64 c.args.word) % 64 ≡ trailing_zeros w64 c.args.word = omega (arith, t_below) in
    rw (rest, low.1) refl

pub returns-clause-lowest : goal.returns-clause-lowest
unfolding bit_of
returns-clause-lowest c i below =
    let some = c.requires.some in
    let low = bit_at-trailing_zeros w64 c.args.word (omega (arith, some)) (Fits-lt-pow c.ranges.word) in
    let t_below = low.0 in
    let rest : (64 * c.args.k + trailing_zeros w64 c.args.word) % 64 ≡ trailing_zeros w64 c.args.word = omega (arith, t_below) in
    rw (low.2 i (omega (arith, below, rest))) refl

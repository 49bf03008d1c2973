use Rattle.std.proofs.Common.{arith}
use Rattle.std.specs.Int.Bits.{and_lt}
use Rattle.std.proofs.Math.Facts.{Fits-lt-pow}
use Rattle.bit_rows.proofs.Rows.{none_common, some_common}
use Rattle.bit_rows.proofs.row.first_common.Goals as goal

pub returns-then-one-k-ne0 : goal.returns-then-one-k-ne0
returns-then-one-k-ne0 c = record {
  apart = c.loop-k.invariant;
  some = λ within. some_common c.args.one.now c.args.other.now c.loop-k.k c.if-one-k-ne0.true
      (and_lt 64 _ _ (Fits-lt-pow (c.type_inv.one c.loop-k.k)) (Fits-lt-pow (c.type_inv.other c.loop-k.k)));
}

pub loop-k-preserved : goal.loop-k-preserved
loop-k-preserved c = none_common c.args.one.now c.args.other.now c.loop-k.k c.loop-k.invariant (omega arith)

pub returns : goal.returns
returns c =
    let out = c.loop-k-test.false in
    record {
      apart = λ y below. c.loop-k.invariant y (omega (arith, out, below));
      some = λ within. absurd (omega (arith, within));
    }

use Rattle.std.proofs.Common.{length, get_or, arith, bit_and, bit_or}
use Rattle.std.proofs.Math.Facts.{Fits-lt-pow}
use Rattle.bit_rows.proofs.Bits.{bit_zero}
use Rattle.msc_race.specs.Rows.{is_masked}
use Rattle.msc_race.proofs.Shared.{clash}
use Rattle.msc_race.proofs.Making.RowLemmas.{first_number, picks_word}
use Rattle.msc_race.proofs.Making.SummaryLemmas.{low_bit, none_before, told_first, told_further, within_first, within_further}
use Rattle.msc_race.proofs.rows.lowest.Goals as goal

pub loop-left-init : goal.loop-left-init
loop-left-init c = (
  told_first c.args.a.now c.args.b.now c.args.mask.now c.summary.result c.summary-2.result c.summary.ensures.told c.summary-2.ensures.told,
  within_first c.summary.result c.summary-2.result (length c.args.a.now) c.summary.ensures.within (rw c.requires.b at c.summary-2.ensures.within),
)

pub bounds-one-k : goal.bounds-one-k
bounds-one-k c =
    let some = c.loop-left-test.true in
    let within = c.loop-left.invariant.1 _ (low_bit c.loop-left.left (omega (arith, some)) (Fits-lt-pow c.loop-left.auto.left-fits)) in
    rw c.words-one.ensures within

pub bounds-other-k : goal.bounds-other-k
bounds-other-k c =
    let some = c.loop-left-test.true in
    let within = c.loop-left.invariant.1 _ (low_bit c.loop-left.left (omega (arith, some)) (Fits-lt-pow c.loop-left.auto.left-fits)) in
    rw (c.words-other.ensures, c.requires.b) within

pub bounds-mask-k : goal.bounds-mask-k
bounds-mask-k c =
    let some = c.loop-left-test.true in
    let within = c.loop-left.invariant.1 _ (low_bit c.loop-left.left (omega (arith, some)) (Fits-lt-pow c.loop-left.auto.left-fits)) in
    rw c.requires.mask within

pub returns-then-word-ne0-clause-some : goal.returns-then-word-ne0-clause-some
returns-then-word-ne0-clause-some c =
    let a = c.args.a.now in
    let b = c.args.b.now in
    let mask = c.args.mask.now in
    let some = c.loop-left-test.true in
    let low = rw (c.words-one.ensures, c.words-other.ensures) at c.lowest_in.ensures in
    first_number (is_masked a b mask) (λ k. bit_and (bit_or (get_or a k 0) (get_or b k 0)) (get_or mask k 0)) (picks_word a b mask) _
    (none_before c.loop-left.left (omega (arith, some)) (Fits-lt-pow c.loop-left.auto.left-fits) (is_masked a b mask) c.loop-left.invariant.0)
    c.lowest_in.result low.place low.itself low.lowest

pub loop-left-preserved : goal.loop-left-preserved
loop-left-preserved c =
    let a = c.args.a.now in
    let b = c.args.b.now in
    let mask = c.args.mask.now in
    let some = c.loop-left-test.true in (
      told_further c.loop-left.left (omega (arith, some)) (Fits-lt-pow c.loop-left.auto.left-fits) (is_masked a b mask)
          (λ k. bit_and (bit_or (get_or a k 0) (get_or b k 0)) (get_or mask k 0)) (picks_word a b mask)
          (rw (c.words-one.ensures, c.words-other.ensures) at c.if-word-ne0.false) c.loop-left.invariant.0,
      within_further c.loop-left.left (length a) c.loop-left.invariant.1,
    )

pub returns-clause-none : goal.returns-clause-none
returns-clause-none c y picked = clash (rw c.loop-left-test.false at (c.loop-left.invariant.0 y picked)) (bit_zero _)

use Rattle.std.proofs.Common.{arith}
use Rattle.std.proofs.lemmas.Bool.{eqb-true, eq-eqb, false≢true}
use Rattle.msc_instance.proofs.Fitted.{skipped, matched, mismatched, exhausted, all_seen}
use Rattle.msc_instance.proofs.fitting.are_numbered.Goals.{then-k-ends-via-then-k-ends, then-k-ends-via-else-k-ends+then-ends-k, then-counts-q-gt0+else-k-ends+else-ends-k, else-counts-q-gt0}
use Rattle.msc_instance.proofs.fitting.are_numbered.Goals as goal

pub returns-then-k-ends : goal.returns-then-k-ends
returns-then-k-ends g c = (
  λ wrong. absurd (false≢true wrong),
  λ same. elim c.then-k-ends.branch [
    | then-k-ends-via-then-k-ends w ↦
        absurd (exhausted c.args.counts.now c.loop-q.q c.loop-q-test.true c.args.ends.now c.loop-q.k
        c.if-counts-q-gt0.true (omega (arith, w.if-k-ends.true))
        (c.loop-q.invariant.rest.0 same))
    | then-k-ends-via-else-k-ends+then-ends-k w ↦
        absurd (mismatched c.args.counts.now c.loop-q.q c.loop-q-test.true c.args.ends.now
        c.loop-q.k c.if-counts-q-gt0.true w.index-ends-k.result
        (omega (arith, w.if-k-ends.false)) w.if-ends-k.true (c.loop-q.invariant.rest.0 same))
  ],
)

pub loop-q-preserved : goal.loop-q-preserved
loop-q-preserved g c = elim c.if-counts-q-gt0.branch [
  | then-counts-q-gt0+else-k-ends+else-ends-k w ↦ rw w.k-is (record {
    within = omega (arith, c.loop-q.invariant.within, w.if-k-ends.false);
    rest = matched c.args.counts.now c.loop-q.q c.loop-q-test.true c.args.ends.now c.loop-q.k
        w.if-counts-q-gt0.true w.index-ends-k.result
        (omega (arith, c.loop-q.invariant.within, w.if-k-ends.false)) w.if-ends-k.false
        c.loop-q.invariant.rest;
  })
  | else-counts-q-gt0 w ↦ rw w.k-is (record {
    within = c.loop-q.invariant.within;
    rest = skipped c.args.counts.now c.loop-q.q c.loop-q-test.true
        (omega (arith, w.if-counts-q-gt0.false)) c.loop-q.invariant.rest;
  })
]

pub returns : goal.returns
returns g c =
    let seen = all_seen c.args.counts.now c.args.ends.now c.loop-q.k c.loop-q.q
    (omega (arith, c.loop-q-test.false)) c.loop-q.invariant.rest in (
      λ same. seen.1 (omega (arith, eqb-true _ _ same)),
      λ numbers. eq-eqb _ _ (omega (arith, seen.0 numbers, c.loop-q.invariant.within)),
    )

use Rattle.std.proofs.Common.{Bool, ◌&&◌, ◌||◌, nat_eq, ap, ◌∙◌, arith}
use Rattle.msc_picture.specs.Signs.{has_at}
use Rattle.msc_picture.proofs.SpanLemmas.{span_all, span_more, span_none}
use Rattle.msc_picture.proofs.signs.Signs.put_band.Goals as goal

pub loop-r-init : goal.loop-r-init
loop-r-init c =
    let band = c.args.band in
    record {
      from = omega arith;
      within = omega arith;
      has = λ x i.
          span_none band.first x (has_at c.args.self.now.instances.items x i) (nat_eq i band.instance);
    }

pub loop-r-preserved : goal.loop-r-preserved
loop-r-preserved c =
    let band = c.args.band in
    let inv = c.loop-r.invariant in
    record {
      from = omega (arith, inv.from);
      within = omega (arith, inv.within, c.loop-r-test.true);
      has = λ x i.
          span_more band.first c.loop-r.r x (has_at c.args.self.now.instances.items x i)
          (nat_eq i band.instance) _ _ inv.from (inv.has x i) (c.in_ok-put.ensures x i);
    }

pub returns : goal.returns
returns c = λ r i known.
    let band = c.args.band in
    let inv = c.loop-r.invariant in
    inv.has r i
    ∙ ap (λ (b : Bool). has_at c.args.self.now.instances.items r i || (b && nat_eq i band.instance))
    (span_all band c.args.many c.loop-r.r r known
    (omega (arith, c.loop-r-test.false, c.end_of-end.ensures))
    (omega (arith, inv.within, c.end_of-end.ensures)))
